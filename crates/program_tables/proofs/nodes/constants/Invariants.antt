use Rattle.std.proofs.Common.{◌≡◌, ◌++◌, drop}
use Rattle.je_core.specs.View.{views}
use Rattle.program_tables.specs.way.Words.{constants_of}
use Rattle.program_tables.proofs.nodes.constants.Given as goal

abbrev pub invariant-loop-at : goal.invariant-loop-at
invariant-loop-at l =
    views l.values.items ++ constants_of l.of l.at (drop l.at l.of.constants.now) ≡ constants_of l.of 0 l.of.constants.now
