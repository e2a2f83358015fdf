use Rattle.std.proofs.Common.{◌≡◌, ◌++◌, ◌∷◌, map, drop}
use Rattle.body_places.specs.Places.{frame_seen}
use Rattle.class_places.proofs.rounds.add_scope.Given as goal

abbrev pub invariant-loop-frame : goal.invariant-loop-frame
invariant-loop-frame l = map frame_seen l.bodies.items ++ map frame_seen (drop l.frame-index l.scope.round.items)
    ≡ map frame_seen l.fn.bodies.items ++ frame_seen l.scope.here ∷ map frame_seen l.scope.round.items
