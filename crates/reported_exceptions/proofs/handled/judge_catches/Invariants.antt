use Rattle.std.proofs.Common.{◌≡◌, [], drop, map}
use Rattle.je_core.specs.Core.{core_catches}
use Rattle.je_core.specs.View.{catch_view, program_view}
use Rattle.flow_base.specs.way.Kept.{first_of}
use Rattle.reported_exceptions.specs.Handled.{catch_faults}
use Rattle.reported_exceptions.proofs.handled.judge_catches.Given as goal

abbrev pub invariant-loop-catch : goal.invariant-loop-catch
invariant-loop-catch l = first_of l.found (catch_faults (program_view l.program) l.thrown l.earlier.items (core_catches (map catch_view (drop l.catch-index l.catches)))) ≡ first_of l.fn.found (catch_faults (program_view l.program) l.thrown [] (core_catches (map catch_view l.catches)))
