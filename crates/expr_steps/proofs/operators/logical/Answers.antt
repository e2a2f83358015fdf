use Rattle.std.proofs.Common.{sym, ap, ◌∙◌, ◌&&◌}
use Rattle.je_core.specs.Core.{Core}
use Rattle.je_core.specs.View.{view}
use Rattle.je_core.specs.declared.types.Base.TheVariants as base
use Rattle.name_types.specs.View.{shown}
use Rattle.je_typing.specs.declared.fault.TypeRule.TheVariants.{BadOperand}
use Rattle.je_typing.specs.Judged.{check, gives}
use Rattle.je_typing.specs.Operators.{logical, logical_node, of_base}
use Rattle.je_typing.specs.Typed.{is_boolean}
use Rattle.je_typing.proofs.Walks.{bind_gives}
use Rattle.expr_steps.proofs.operators.logical.Goals as goal

pub returns-clause-ok : goal.returns-clause-ok
unfolding logical
returns-clause-ok c =
    let whole : Core = logical_node c.args.is_and c.args.at c.args.span (view c.args.left.node) (view c.args.right.node) in
    bind_gives (check BadOperand c.args.at (is_boolean (shown c.args.left.ty) && is_boolean (shown c.args.right.ty))) (λ done. gives (of_base base.Bool whole)) _
    (ap (check BadOperand c.args.at) (sym c.are_booleans.ensures) ∙ c.in_ok-check.ensures.ok)
    ∙ ap (λ (n : Core). gives (of_base base.Bool n)) (sym c.in_ok-node.ensures)
    ∙ ap gives (sym c.of_base.ensures)
