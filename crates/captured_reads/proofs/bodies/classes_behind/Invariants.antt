use Rattle.std.proofs.Common.{◌≡◌, length}
use Rattle.captured_reads.specs.Walks.{classes_behind}
use Rattle.captured_reads.proofs.bodies.classes_behind.Given as goal

abbrev pub invariant-loop-class : goal.invariant-loop-class
invariant-loop-class l = classes_behind l.start l.rest ≡ classes_behind l.start l.classes

abbrev pub decreases-loop-class : goal.decreases-loop-class
decreases-loop-class l = length l.rest
