use Rattle.std.proofs.Common.{sym, ap, ◌∙◌, nat_eq}
use Rattle.je_scopes.specs.SourceTypes.{of_variable, same_source_type}
use Rattle.source_subtypes.proofs.Equal.{first-true, first-false, number-same, number-other, plain-shape, made-shape, variable-shape, variable-variable, variable-plain}
use Rattle.source_subtypes.proofs.equality.is_variable.Goals as goal

pub returns-then-class-other : goal.returns-then-class-other
returns-then-class-other c = λ n. first-true (nat_eq c.args.class.0 c.in-Var.other.0) (nat_eq c.args.at c.in-Var.place) _ (number-same c.args.class.0 c.in-Var.other.0 c.if-class-other.true)
    (variable-variable c.args.class.0 c.in-Var.other.0 c.args.at c.in-Var.place n
    ∙ ap (same_source_type (of_variable c.args.class.0 c.args.at n)) (sym (variable-shape c.args.base.now c.in-Var.other c.in-Var.place n c.in-Var.is)))

pub returns-else-class-other : goal.returns-else-class-other
returns-else-class-other c = λ n. first-false (nat_eq c.args.class.0 c.in-Var.other.0) (nat_eq c.args.at c.in-Var.place) _ (number-other c.args.class.0 c.in-Var.other.0 c.if-class-other.false)
    (variable-variable c.args.class.0 c.in-Var.other.0 c.args.at c.in-Var.place n
    ∙ ap (same_source_type (of_variable c.args.class.0 c.args.at n)) (sym (variable-shape c.args.base.now c.in-Var.other c.in-Var.place n c.in-Var.is)))

pub returns-in-Plain : goal.returns-in-Plain
returns-in-Plain c = λ n. variable-plain c.args.class.0 c.args.at n c.in-Plain.field-0
    ∙ ap (same_source_type (of_variable c.args.class.0 c.args.at n)) (sym (plain-shape c.args.base.now c.in-Plain.field-0 n c.in-Plain.is))

pub returns-in-Made : goal.returns-in-Made
returns-in-Made c = λ n.
    ap (same_source_type (of_variable c.args.class.0 c.args.at n)) (sym (made-shape c.args.base.now c.in-Made.field-0 c.in-Made.field-1 n c.in-Made.is))
