use Rattle.std.proofs.Common.{◌≡◌, ◌++◌, ◌+◌, drop}
use Rattle.program_tables.specs.way.Places.{places_from}
use Rattle.program_tables.proofs.program.places.Given as goal

abbrev pub invariant-loop-at : goal.invariant-loop-at
invariant-loop-at l = l.fields.items ++ places_from (l.first + l.at) (drop l.at l.locals) ≡ places_from l.first l.locals
