use Rattle.std.proofs.Common.{◌≡◌, drop}
use Rattle.taming_db.specs.Markers.{is_same}
use Rattle.taming_db.specs.Rows.{has_twice}
use Rattle.taming_db.proofs.judge.has_marker_twice.Given as goal

abbrev pub invariant-loop-at : goal.invariant-loop-at
invariant-loop-at l = has_twice is_same (drop l.at l.markers) ≡ has_twice is_same l.markers
