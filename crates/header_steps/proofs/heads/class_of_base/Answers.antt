use Rattle.std.proofs.Common.{sym, ap, ◌∙◌}
use Rattle.header_typing.specs.Supers.{class_in}
use Rattle.source_subtypes.proofs.Equal.{plain-shape, made-shape, variable-shape}
use Rattle.header_steps.proofs.heads.class_of_base.Goals as goal

pub returns-in-Plain : goal.returns-in-Plain
returns-in-Plain c = λ n. c.class_of_plain.ensures n ∙ ap class_in (sym (plain-shape c.args.base.now c.in-Plain.plain n c.in-Plain.is))

pub returns-in-Made : goal.returns-in-Made
returns-in-Made c = λ n. ap class_in (sym (made-shape c.args.base.now c.in-Made.class c.in-Made.field-1 n c.in-Made.is))

pub returns-in-Var : goal.returns-in-Var
returns-in-Var c = λ n. ap class_in (sym (variable-shape c.args.base.now c.in-Var.field-0 c.in-Var.field-1 n c.in-Var.is))
