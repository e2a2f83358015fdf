use Rattle.std.proofs.Common.{arith}
use Rattle.je_core.specs.View.{program_view}
use Rattle.class_tables.proofs.Orders.{ends-at-once}
use Rattle.class_tables.proofs.order.climb.Goals as goal

pub returns : goal.returns
returns c = ends-at-once (program_view c.args.program.now) c.args.order.now c.args.class c.loop-at.at c.loop-at.path.items c.loop-at.above c.requires.acyclic c.loop-at.invariant (omega (arith, c.loop-at-test.false, c.class_count-count.ensures))
