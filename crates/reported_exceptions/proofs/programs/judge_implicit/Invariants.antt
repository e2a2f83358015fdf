use Rattle.std.proofs.Common.{◌≡◌, drop, map}
use Rattle.je_core.specs.View.{class_view, method_view, program_view}
use Rattle.flow_base.specs.FaultSets.{of_each}
use Rattle.flow_base.specs.way.Kept.{first_of}
use Rattle.reported_exceptions.specs.Programs.{implicit_faults}
use Rattle.reported_exceptions.proofs.programs.judge_implicit.Given as goal

abbrev pub invariant-loop-method : goal.invariant-loop-method
invariant-loop-method l = first_of l.found (of_each (implicit_faults (program_view l.program) (class_view l.class)) (map method_view (drop l.method-index l.methods))) ≡ first_of l.fn.found (of_each (implicit_faults (program_view l.program) (class_view l.class)) (map method_view l.methods))
