use Rattle.std.proofs.Common.{◌≡◌, ◌+◌, drop, map}
use Rattle.name_typing.specs.Instances.{steps_from}
use Rattle.body_places.specs.Places.{frame_seen}
use Rattle.body_places.proofs.instances.steps_round.Given as goal

abbrev pub invariant-loop-at : goal.invariant-loop-at
invariant-loop-at l = steps_from (l.at + 1) l.class.0 (map frame_seen (drop l.at l.round)) ≡ steps_from 1 l.class.0 (map frame_seen l.round)
