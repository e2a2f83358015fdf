use Rattle.std.proofs.Common.{ℕ, map, take}
use Rattle.body_walks.specs.Seen.{met_seen}
use Rattle.class_places.specs.First.{AreFirst}
use Rattle.class_places.proofs.first.Stands.add_all.Given as goal

abbrev pub invariant-loop-at : goal.invariant-loop-at
invariant-loop-at l = (count : ℕ) → AreFirst count (map met_seen (take l.from l.met)) l.fn.self → AreFirst count (map met_seen (take l.at l.met)) l.self
