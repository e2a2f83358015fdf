use Rattle.std.proofs.Common.{◌≡◌, drop, map}
use Rattle.je_core.specs.View.{class_view}
use Rattle.flow_base.specs.FaultSets.{of_each}
use Rattle.flow_base.specs.way.Kept.{first_of}
use Rattle.reachability.specs.Programs.{class_faults}
use Rattle.reachability.proofs.programs.judge_classes.Given as goal

abbrev pub invariant-loop-class : goal.invariant-loop-class
invariant-loop-class l = first_of l.found (of_each class_faults (map class_view (drop l.class-index l.classes))) ≡ first_of l.fn.found (of_each class_faults (map class_view l.classes))
