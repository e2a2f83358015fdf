use Rattle.std.proofs.Common.{◌≡◌, drop}
use Rattle.taming_db.specs.Rows.{has_twice, same_place}
use Rattle.taming_db.proofs.judge.has_place_twice.Given as goal

abbrev pub invariant-loop-at : goal.invariant-loop-at
invariant-loop-at l = has_twice same_place (drop l.at l.places) ≡ has_twice same_place l.places
