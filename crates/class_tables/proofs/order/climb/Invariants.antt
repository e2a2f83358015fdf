use Rattle.je_core.specs.View.{program_view}
use Rattle.class_tables.proofs.Orders.{IsClimb}
use Rattle.class_tables.proofs.order.climb.Given as goal

abbrev pub invariant-loop-at : goal.invariant-loop-at
invariant-loop-at l = IsClimb (program_view l.program) l.fn.class l.at l.path.items l.above
