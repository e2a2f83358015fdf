use Rattle.std.proofs.Common.{sym, ap, ◌∙◌}
use Rattle.je_core.specs.Core.{Core}
use Rattle.je_core.specs.View.{view}
use Rattle.je_core.specs.declared.types.Base.{Base}
use Rattle.name_types.specs.View.{shown}
use Rattle.je_typing.specs.declared.fault.TypeRule.TheVariants.{BadOperand}
use Rattle.je_typing.specs.Judged.{gives, need}
use Rattle.je_typing.specs.Operators.{of_base, operand_base, unary, unary_node}
use Rattle.je_typing.proofs.Walks.{bind_gives}
use Rattle.expr_steps.proofs.operators.unary.Goals as goal

pub returns-clause-ok : goal.returns-clause-ok
unfolding unary
returns-clause-ok c =
    bind_gives (need BadOperand c.args.at (operand_base c.args.op (shown c.args.operand.ty)))
    (λ (b : Base). gives (of_base b (unary_node c.args.op b c.args.at c.args.span (view c.args.operand.node)))) c.in_ok-base.base
    (ap (need BadOperand c.args.at) (sym c.operand_base.ensures) ∙ c.in_ok-base.ensures.ok)
    ∙ ap (λ (n : Core). gives (of_base c.in_ok-base.base n)) (sym c.in_ok-node.ensures)
    ∙ ap gives (sym c.of_base.ensures)
