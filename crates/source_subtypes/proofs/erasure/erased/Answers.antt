use Rattle.std.proofs.Common.{sym, ap, ◌∙◌}
use Rattle.name_types.proofs.Views.{type_is}
use Rattle.source_types.specs.Erasure.{erased}
use Rattle.source_types.specs.Heads.{variable_count}
use Rattle.source_subtypes.specs.View.{heads_of}
use Rattle.source_subtypes.proofs.Equal.{variable-shape}
use Rattle.source_subtypes.proofs.Erasing.{plain-last, made-last}
use Rattle.source_subtypes.proofs.erasure.erased.Goals as goal

pub returns-in-Plain : goal.returns-in-Plain
unfolding erased
returns-in-Plain c = plain-last (heads_of c.args.heads.now) (variable_count (heads_of c.args.heads.now)) c.args.ty.now c.in-Plain.base c.in-Plain.is

pub returns-in-Made : goal.returns-in-Made
unfolding erased
returns-in-Made c = made-last (heads_of c.args.heads.now) (variable_count (heads_of c.args.heads.now)) c.args.ty.now c.in-Made.class c.in-Made.field-1 c.in-Made.is

pub returns-in-Var : goal.returns-in-Var
returns-in-Var c = c.erased_variable.ensures
    ∙ ap (erased (heads_of c.args.heads.now)) (sym (type_is c.args.ty.now ∙ variable-shape c.args.ty.now.base c.in-Var.class c.in-Var.at c.args.ty.now.dims c.in-Var.is))
