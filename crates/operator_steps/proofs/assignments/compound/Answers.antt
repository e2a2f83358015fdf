use Rattle.std.proofs.Common.{sym, ap, ◌∙◌}
use Rattle.je_core.specs.declared.expr.BinOp.{BinOp}
use Rattle.je_typing.specs.declared.fault.TypeRule.TheVariants.{BadOperand}
use Rattle.je_typing.specs.Assignments.{compound, update}
use Rattle.je_typing.specs.Judged.{need}
use Rattle.je_typing.specs.Operators.{core_op}
use Rattle.je_typing.proofs.Walks.{bind_gives}
use Rattle.source_subtypes.specs.View.{heads_of}
use Rattle.typed_nodes.specs.Seen.{seen}
use Rattle.operator_steps.proofs.assignments.compound.Goals as goal

pub returns-clause-ok : goal.returns-clause-ok
unfolding compound
returns-clause-ok c =
    bind_gives (need BadOperand c.args.at (core_op c.args.op)) (λ (k : BinOp). update (heads_of c.args.heads.now) k c.args.at c.args.left_span c.args.span (seen c.args.left) (seen c.args.right)) c.in_ok-core.core
    (ap (need BadOperand c.args.at) (sym c.core_op.ensures) ∙ c.in_ok-core.ensures.ok)
    ∙ c.in_ok-whole.ensures.ok
