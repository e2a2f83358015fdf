use Rattle.std.proofs.Common.{◌≡◌, ◌++◌, drop, map}
use Rattle.je_core.specs.View.{initializer_view}
use Rattle.program_tables.specs.way.Words.{all_made}
use Rattle.program_tables.proofs.made.constants_made.Given as goal

abbrev pub invariant-loop-at : goal.invariant-loop-at
invariant-loop-at l =
    map initializer_view l.all.items ++ all_made l.of l.at (drop l.at l.of.constants.now) ≡ all_made l.of 0 l.of.constants.now
