use Rattle.std.proofs.Common.{◌≡◌, drop, map}
use Rattle.je_core.specs.View.{initializer_view}
use Rattle.flow_base.specs.FaultSets.{of_each}
use Rattle.flow_base.specs.way.Kept.{first_of}
use Rattle.reachability.specs.Programs.{initializer_faults}
use Rattle.reachability.proofs.programs.judge_initializers.Given as goal

abbrev pub invariant-loop-initializer : goal.invariant-loop-initializer
invariant-loop-initializer l = first_of l.found (of_each initializer_faults (map initializer_view (drop l.initializer-index l.initializers))) ≡ first_of l.fn.found (of_each initializer_faults (map initializer_view l.initializers))
