use Rattle.std.proofs.Common.{◌≡◌}
use Rattle.je_core.specs.View.{program_view, method_view}
use Rattle.je_classes.specs.Dispatch.{implemented_upwards, implemented}
use Rattle.class_members.proofs.dispatch.implemented.Given as goal

abbrev pub invariant-loop-left : goal.invariant-loop-left
invariant-loop-left l = implemented_upwards (program_view l.program) l.left (method_view l.method) l.above ≡ implemented (program_view l.program) l.fn.class (method_view l.method)

abbrev pub decreases-loop-left : goal.decreases-loop-left
decreases-loop-left l = l.left
