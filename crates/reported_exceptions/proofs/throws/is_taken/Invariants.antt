use Rattle.std.proofs.Common.{◌≡◌, drop, map}
use Rattle.je_core.specs.Core.{core_catches}
use Rattle.je_core.specs.View.{catch_view, program_view}
use Rattle.reported_exceptions.specs.Throws.{is_taken}
use Rattle.reported_exceptions.proofs.throws.is_taken.Given as goal

abbrev pub invariant-loop-catch : goal.invariant-loop-catch
invariant-loop-catch l = is_taken (program_view l.program) (core_catches (map catch_view (drop l.catch-index l.catches))) l.class ≡ is_taken (program_view l.program) (core_catches (map catch_view l.catches)) l.class
