use Rattle.std.proofs.Common.{◌≡◌, drop, map}
use Rattle.je_core.specs.View.{catch_view, program_view}
use Rattle.je_java.specs.Meaning.{catch_for}
use Rattle.machine_statements.proofs.catch.catch_among.Given as goal

abbrev pub invariant-loop-taken : goal.invariant-loop-taken
invariant-loop-taken l =
    catch_for (program_view l.program) (map catch_view (drop l.taken-index l.catches)) l.own ≡ catch_for (program_view l.program) (map catch_view l.catches) l.own
