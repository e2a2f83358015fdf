use Rattle.std.proofs.Common.{◌≡◌, ◌≤◌, drop, filter, length, map}
use Rattle.body_places.specs.Places.{frame_seen}
use Rattle.body_walks.specs.Known.{captured_local_seen}
use Rattle.class_places.specs.way.Locals.{is_kept, locals_from}
use Rattle.class_places.proofs.locals.locals_of.Given as goal

abbrev pub invariant-loop-left : goal.invariant-loop-left
invariant-loop-left l = record {
  few : l.left ≤ length l.round;
  so_far : map captured_local_seen l.locals.items ≡ filter (is_kept l.all.keys l.class.0) (locals_from (map frame_seen (drop l.left l.round)));
}

abbrev pub decreases-loop-left : goal.decreases-loop-left
decreases-loop-left l = l.left
