use Rattle.std.proofs.Common.{sym, ap, ◌∙◌}
use Rattle.source_types.specs.Subtypes.{is_null}
use Rattle.source_subtypes.proofs.Equal.{null-plain, plain-shape, made-shape, variable-shape}
use Rattle.source_subtypes.proofs.subtypes.is_null.Goals as goal

pub returns-in-Plain : goal.returns-in-Plain
returns-in-Plain c = c.is_null_base.ensures ∙ null-plain c.in-Plain.base 0 ∙ ap is_null (sym (plain-shape c.args.base.now c.in-Plain.base 0 c.in-Plain.is))

pub returns-in-Made : goal.returns-in-Made
returns-in-Made c = ap is_null (sym (made-shape c.args.base.now c.in-Made.field-0 c.in-Made.field-1 0 c.in-Made.is))

pub returns-in-Var : goal.returns-in-Var
returns-in-Var c = ap is_null (sym (variable-shape c.args.base.now c.in-Var.field-0 c.in-Var.field-1 0 c.in-Var.is))
