use Rattle.std.proofs.Common.{sym, ◌∙◌}
use Rattle.machine_parts.proofs.Initializers.{first_kept, first_passed}
use Rattle.machine_parts.proofs.class.next_initializer.Goals as goal

pub returns-then-initializers-next-clause-goes : goal.returns-then-initializers-next-clause-goes
returns-then-initializers-next-clause-goes c =
    sym c.loop-next.invariant
    ∙ first_kept c.args.initializers.now c.loop-next.next c.index-initializers-next.result c.loop-next-test.true c.index-initializers-next.is c.args.is_static c.if-initializers-next.true

pub loop-next-preserved : goal.loop-next-preserved
loop-next-preserved c =
    first_passed c.args.initializers.now c.loop-next.next c.index-initializers-next.result c.loop-next-test.true c.index-initializers-next.is c.args.is_static c.if-initializers-next.false
    ∙ c.loop-next.invariant
