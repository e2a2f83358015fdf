use Rattle.std.proofs.Common.{◌≡◌, map, take}
use Rattle.body_places.specs.Places.{local_seen}
use Rattle.body_walks.proofs.keeping.copied_locals.Given as goal

abbrev pub invariant-loop-local : goal.invariant-loop-local
invariant-loop-local l = map local_seen l.copies.items ≡ map local_seen (take l.local-index l.locals)
