use Rattle.std.proofs.Common.{◌≡◌, drop, map}
use Rattle.je_core.specs.View.{method_view, program_view}
use Rattle.flow_base.specs.FaultSets.{of_each}
use Rattle.flow_base.specs.way.Kept.{first_of}
use Rattle.reported_exceptions.specs.Programs.{declaring_faults}
use Rattle.reported_exceptions.proofs.programs.report_declaring.Given as goal

abbrev pub invariant-loop-method : goal.invariant-loop-method
invariant-loop-method l = first_of l.found (of_each (declaring_faults (program_view l.program) l.thrown) (map method_view (drop l.method-index l.methods))) ≡ first_of l.fn.found (of_each (declaring_faults (program_view l.program) l.thrown) (map method_view l.methods))
