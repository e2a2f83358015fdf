use Rattle.std.proofs.Common.{◌≡◌, drop, map}
use Rattle.je_core.specs.View.{method_view, program_view}
use Rattle.flow_base.specs.FaultSets.{of_each}
use Rattle.flow_base.specs.way.Kept.{first_of}
use Rattle.reported_exceptions.specs.Programs.{method_faults}
use Rattle.reported_exceptions.specs.View.{rows}
use Rattle.reported_exceptions.proofs.programs.judge_methods.Given as goal

abbrev pub invariant-loop-method : goal.invariant-loop-method
invariant-loop-method l = first_of l.found (of_each (method_faults (program_view l.program) (rows l.makings) l.anonymous) (map method_view (drop l.method-index l.methods))) ≡ first_of l.fn.found (of_each (method_faults (program_view l.program) (rows l.makings) l.anonymous) (map method_view l.methods))
