use Rattle.std.proofs.Common.{◌≡◌, ℕ, ◌+◌, ◌*◌, List, max, drop, map}
use denote.Param.Weighed.{most}
use Rattle.je_ast.specs.declared.expr.Expr.{Expr}
use Rattle.je_ast.proofs.expr.Expr.TheLaws.{the_size}
use Rattle.je_ast.specs.View.{views_of}
use Rattle.operator_steps.specs.Parts.{part_seen}
use Rattle.typed_nodes.specs.Seen.{seen}
use Rattle.type_expr.specs.Seen.{purpose_seen}
use Rattle.type_expr.specs.Walk.{values_in}
use Rattle.type_expr.specs.way.Lists.{parts_in}
use Rattle.type_expr.proofs.Lists.{behind}
use Rattle.type_expr.proofs.walk.+expression.Given as goal

abbrev pub invariant-values-loop-expr : goal.invariant-values-loop-expr
invariant-values-loop-expr l =
    values_in l.bodies l.scope (views_of l.exprs) ≡ behind (map seen l.values.items) (values_in l.bodies l.scope (views_of (drop l.expr-index l.exprs)))

abbrev pub invariant-parts-loop-expr : goal.invariant-parts-loop-expr
invariant-parts-loop-expr l =
    parts_in l.bodies l.scope (purpose_seen l.purpose) (views_of l.exprs)
    ≡ behind (map part_seen l.parts.items) (parts_in l.bodies l.scope (purpose_seen l.purpose) (views_of (drop l.expr-index l.exprs)))

-- each function goes down by the deepest of the trees that it is given, and stands above those that it calls with the same
abbrev deepest : List Expr → ℕ
deepest es = most (λ x. the_size x) es

abbrev pub decreases-elab_here : goal.decreases-elab_here
decreases-elab_here l = 8 * the_size l.expr.now

abbrev pub decreases-elab_expr : goal.decreases-elab_expr
decreases-elab_expr l = 8 * the_size l.expr.now + 1

abbrev pub decreases-value : goal.decreases-value
decreases-value l = 8 * the_size l.expr.now + 2

abbrev pub decreases-part : goal.decreases-part
decreases-part l = 8 * the_size l.expr.now + 3

abbrev pub decreases-before : goal.decreases-before
decreases-before l = 8 * the_size l.expr.now + 3

abbrev pub decreases-select : goal.decreases-select
decreases-select l = 8 * the_size l.object.now + 4

abbrev pub decreases-postfix : goal.decreases-postfix
decreases-postfix l = 8 * the_size l.operand.now + 4

abbrev pub decreases-prefix : goal.decreases-prefix
decreases-prefix l = 8 * the_size l.operand.now + 4

abbrev pub decreases-cast_to : goal.decreases-cast_to
decreases-cast_to l = 8 * the_size l.operand.now + 4

abbrev pub decreases-tested : goal.decreases-tested
decreases-tested l = 8 * the_size l.operand.now + 4

abbrev pub decreases-index : goal.decreases-index
decreases-index l = 8 * max (the_size l.array.now) (the_size l.at.now) + 4

abbrev pub decreases-operation : goal.decreases-operation
decreases-operation l = 8 * max (the_size l.left.now) (the_size l.right.now) + 4

abbrev pub decreases-conditional : goal.decreases-conditional
decreases-conditional l = 8 * max (the_size l.condition.now) (max (the_size l.yes.now) (the_size l.no.now)) + 4

abbrev pub decreases-assign : goal.decreases-assign
decreases-assign l = 8 * max (the_size l.place.now) (the_size l.value.now) + 4

abbrev pub decreases-call_of : goal.decreases-call_of
decreases-call_of l = 8 * max (the_size l.object.now) (deepest l.args.now) + 4

abbrev pub decreases-values : goal.decreases-values
decreases-values l = 8 * deepest l.exprs.now + 3

abbrev pub decreases-parts : goal.decreases-parts
decreases-parts l = 8 * deepest l.exprs.now + 4

abbrev pub decreases-call : goal.decreases-call
decreases-call l = 8 * deepest l.args.now + 4

abbrev pub decreases-call_of_super : goal.decreases-call_of_super
decreases-call_of_super l = 8 * deepest l.args.now + 4

abbrev pub decreases-new_object : goal.decreases-new_object
decreases-new_object l = 8 * deepest l.args.now + 4

abbrev pub decreases-new_with_body : goal.decreases-new_with_body
decreases-new_with_body l = 8 * deepest l.args.now + 4

abbrev pub decreases-lengths_of : goal.decreases-lengths_of
decreases-lengths_of l = 8 * deepest l.exprs.now + 5

abbrev pub decreases-new_array : goal.decreases-new_array
decreases-new_array l = 8 * deepest l.lengths.now + 6

abbrev pub decreases-elements_of : goal.decreases-elements_of
decreases-elements_of l = 8 * deepest l.exprs.now + 5

abbrev pub decreases-initializer : goal.decreases-initializer
decreases-initializer l = 8 * deepest l.exprs.now + 6

abbrev pub decreases-initialized : goal.decreases-initialized
decreases-initialized l = 8 * deepest l.exprs.now + 7

abbrev pub decreases-elements_here : goal.decreases-elements_here
decreases-elements_here l = 8 * the_size l.expr.now

abbrev pub decreases-elements_in : goal.decreases-elements_in
decreases-elements_in l = 8 * the_size l.expr.now + 1

abbrev pub decreases-new_array_with : goal.decreases-new_array_with
decreases-new_array_with l = 8 * the_size l.init.now + 2
