use Rattle.std.proofs.Common.{◌≡◌, ◌++◌, ◌≤◌, drop, filter, length, map}
use Rattle.class_typing.specs.Captures.{reversed}
use Rattle.body_places.specs.Places.{local_seen}
use Rattle.body_walks.specs.Known.{captured_local_seen}
use Rattle.class_places.specs.way.Locals.{is_kept, own}
use Rattle.class_places.proofs.locals.add_locals.Given as goal

abbrev pub invariant-loop-left : goal.invariant-loop-left
invariant-loop-left l = record {
  few : l.left ≤ length l.variables;
  so_far : map captured_local_seen l.locals.items ≡ map captured_local_seen l.initial.locals.items
      ++ filter (is_kept l.all.keys l.class.0) (map (own l.owner.0) (reversed (map local_seen (drop l.left l.variables))));
}

abbrev pub decreases-loop-left : goal.decreases-loop-left
decreases-loop-left l = l.left
