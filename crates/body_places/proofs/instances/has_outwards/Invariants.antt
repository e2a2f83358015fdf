use Rattle.std.proofs.Common.{◌≡◌, ◌-◌, ◌≤◌, drop, map}
use Rattle.name_typing.specs.Instances.{has_instance}
use Rattle.body_places.specs.Places.{frame_seen}
use Rattle.body_places.proofs.instances.has_outwards.Given as goal

abbrev pub invariant-loop-at : goal.invariant-loop-at
invariant-loop-at l =
    (has_instance (l.steps - l.at) (map frame_seen (drop l.at l.frames)) ≡ has_instance l.steps (map frame_seen l.frames))
    × (l.at ≤ l.steps)
