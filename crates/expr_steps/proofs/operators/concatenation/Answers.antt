use Rattle.std.proofs.Common.{sym, ap, ◌∙◌, ◌||◌}
use Rattle.std.specs.Prelude.{not}
use Rattle.je_core.specs.Core.{Core}
use Rattle.je_core.specs.View.{view}
use Rattle.je_scopes.specs.SourceTypes.{SourceType}
use Rattle.name_types.specs.View.{shown}
use Rattle.je_typing.specs.declared.fault.TypeRule.TheVariants.{BadOperand}
use Rattle.je_typing.specs.Judged.{check, gives}
use Rattle.je_typing.specs.Operators.{concat_node, concatenation}
use Rattle.je_typing.specs.Typed.{TypedNode, is_void, string_type}
use Rattle.je_typing.proofs.Walks.{bind_gives}
use Rattle.expr_steps.proofs.operators.concatenation.Goals as goal

pub returns-clause-ok : goal.returns-clause-ok
unfolding concatenation
returns-clause-ok c =
    let typed : Core → SourceType → TypedNode = λ n t. record { node = n; type = t } in
    let whole : TypedNode = typed (concat_node c.args.at c.args.span (view c.args.left.node) (view c.args.right.node)) string_type in
    bind_gives (check BadOperand c.args.at (not (is_void (shown c.args.left.ty) || is_void (shown c.args.right.ty)))) (λ done. gives whole) _
    (ap (check BadOperand c.args.at) (sym c.are_values.ensures) ∙ c.in_ok-check.ensures.ok)
    ∙ (λ i. gives (typed (sym c.in_ok-node.ensures i) (sym c.string_ty-ty.ensures i)))
