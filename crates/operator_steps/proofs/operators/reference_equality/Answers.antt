use Rattle.std.proofs.Common.{sym, ap, ◌∙◌}
use Rattle.je_core.specs.declared.types.Base.TheVariants as base
use Rattle.je_core.specs.Core.{Core}
use Rattle.je_core.specs.View.{view}
use Rattle.name_types.specs.View.{shown}
use Rattle.je_typing.specs.declared.fault.TypeRule.TheVariants.{BadOperand}
use Rattle.je_typing.specs.Castable.{may_be}
use Rattle.je_typing.specs.Judged.{check, gives}
use Rattle.je_typing.specs.Operators.{of_base, reference_equality, reference_node}
use Rattle.je_typing.proofs.Walks.{bind_gives}
use Rattle.source_subtypes.specs.View.{heads_of}
use Rattle.operator_steps.proofs.operators.reference_equality.Goals as goal

pub returns-clause-ok : goal.returns-clause-ok
unfolding reference_equality
returns-clause-ok c =
    let whole : Core = reference_node c.args.op c.args.at c.args.span (view c.args.left.node) (view c.args.right.node) in
    bind_gives (check BadOperand c.args.at (may_be (heads_of c.args.heads.now) (shown c.args.left.ty) (shown c.args.right.ty))) (λ done. gives (of_base base.Bool whole)) _
    (ap (check BadOperand c.args.at) (sym c.in_ok-may.ensures) ∙ c.in_ok-check.ensures.ok)
    ∙ ap (λ (n : Core). gives (of_base base.Bool n)) (sym c.in_ok-node.ensures)
    ∙ ap gives (sym c.of_base.ensures)
