use Rattle.std.proofs.Common.{◌≡◌, ◌-◌, drop, map}
use Rattle.je_core.specs.View.{view}
use Rattle.name_typing.specs.Instances.{instance_node, outwards_from}
use Rattle.body_places.specs.Places.{frame_seen, place_seen}
use Rattle.body_places.specs.View.{program_seen}
use Rattle.body_places.proofs.instances.instance_node.Given as goal

abbrev pub invariant-loop-step : goal.invariant-loop-step
invariant-loop-step l =
    outwards_from (program_seen l.program) l.at (view l.object) l.class.0 (l.steps - l.step) (map frame_seen (drop l.step l.place.round.now)) ≡
    instance_node (program_seen l.program) (place_seen l.place) l.steps l.at
