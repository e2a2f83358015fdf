use Rattle.std.proofs.Common.{◌≡◌, drop, map}
use Rattle.je_core.specs.View.{method_view}
use Rattle.flow_base.specs.FaultSets.{of_each}
use Rattle.flow_base.specs.way.Kept.{first_of}
use Rattle.reachability.specs.Programs.{method_faults}
use Rattle.reachability.proofs.programs.judge_methods.Given as goal

abbrev pub invariant-loop-method : goal.invariant-loop-method
invariant-loop-method l = first_of l.found (of_each method_faults (map method_view (drop l.method-index l.methods))) ≡ first_of l.fn.found (of_each method_faults (map method_view l.methods))
