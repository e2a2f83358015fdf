use Rattle.std.proofs.Common.{◌≡◌}
use Rattle.je_core.specs.View.{program_view}
use Rattle.je_java.specs.Subclasses.{is_among, is_subclass}
use Rattle.machine_parts.proofs.class.is_subclass.Given as goal

abbrev pub invariant-loop-left : goal.invariant-loop-left
invariant-loop-left l = is_among (program_view l.program) l.left l.above l.class ≡ is_subclass (program_view l.program) l.fn.own l.class

abbrev pub decreases-loop-left : goal.decreases-loop-left
decreases-loop-left l = l.left
