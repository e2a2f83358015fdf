use Rattle.std.proofs.Common.{sym, ap, ◌∙◌}
use Rattle.je_core.specs.Core.{Core}
use Rattle.je_core.specs.View.{view}
use Rattle.je_core.specs.declared.types.Base.{Base}
use Rattle.je_fitting.specs.Operators.{sort_of}
use Rattle.name_types.specs.View.{shown}
use Rattle.je_typing.specs.declared.fault.TypeRule.TheVariants.{BadOperand}
use Rattle.je_typing.specs.declared.operands.Operands.{Operands}
use Rattle.je_typing.specs.Judged.{gives, need}
use Rattle.je_typing.specs.Operators.{binary_of, of_base, operands, primitive_operation, result_base}
use Rattle.je_typing.proofs.Walks.{bind_gives}
use Rattle.expr_steps.proofs.operators.primitive_operation.Goals as goal

pub returns-clause-ok : goal.returns-clause-ok
unfolding primitive_operation
returns-clause-ok c =
    let left = view c.args.left.node in
    let right = view c.args.right.node in
    bind_gives (need BadOperand c.args.at (operands (sort_of c.args.op) (shown c.args.left.ty) (shown c.args.right.ty)))
    (λ (p : Operands). gives (binary_of c.args.op p (result_base (sort_of c.args.op) p.left) c.args.at c.args.span left right)) c.in_ok-to.to
    (ap (need BadOperand c.args.at) (sym c.operands.ensures) ∙ c.in_ok-to.ensures.ok)
    ∙ ap (λ (b : Base). gives (binary_of c.args.op c.in_ok-to.to b c.args.at c.args.span left right)) (sym c.result_base-base.ensures)
    ∙ ap (λ (n : Core). gives (of_base c.result_base-base.result n)) (sym c.in_ok-node.ensures)
    ∙ ap gives (sym c.of_base.ensures)
