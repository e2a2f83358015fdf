use Rattle.std.proofs.Common.{sym, ap, ◌∙◌}
use Rattle.std.specs.Prelude.{not}
use Rattle.je_typing.specs.Casts.{is_reifiable}
use Rattle.source_subtypes.specs.View.{heads_of}
use Rattle.reference_tests.proofs.Shapes.{plain_type, made_type}
use Rattle.reference_tests.proofs.classes.is_reifiable.Goals as goal

pub returns-in-Plain : goal.returns-in-Plain
returns-in-Plain c = c.is_reifiable_base.ensures c.args.ty.now.dims
    ∙ ap (is_reifiable (heads_of c.args.heads.now)) (sym (plain_type c.args.ty.now c.in-Plain.base c.in-Plain.is))

pub returns-in-Made : goal.returns-in-Made
returns-in-Made c = ap not c.is_generic.ensures
    ∙ ap (is_reifiable (heads_of c.args.heads.now)) (sym (made_type c.args.ty.now c.in-Made.class c.in-Made.field-1 c.in-Made.is))
