use Rattle.std.proofs.Common.{sym, ap, ◌∙◌}
use Rattle.reference_tests.specs.way.Shapes.{class_in}
use Rattle.reference_tests.proofs.Shapes.{plain_type, made_type}
use Rattle.reference_tests.proofs.classes.class_in.Goals as goal

pub returns-in-Plain : goal.returns-in-Plain
returns-in-Plain c = c.plain_class.ensures c.args.ty.now.dims ∙ ap class_in (sym (plain_type c.args.ty.now c.in-Plain.plain c.in-Plain.is))

pub returns-in-Made : goal.returns-in-Made
returns-in-Made c = ap class_in (sym (made_type c.args.ty.now c.in-Made.class c.in-Made.field-1 c.in-Made.is))
