use Rattle.std.proofs.Common.{◌≡◌, ◌++◌, map}
use Rattle.name_sites.specs.View.{source_of}
use Rattle.body_places.specs.Places.{frame_seen}
use Rattle.class_typing.specs.Places.{frames_met, round_class}
use Rattle.body_walks.specs.Seen.{met_seen}
use Rattle.class_places.proofs.rounds.round_class.Given as goal

abbrev pub invariant-loop-round : goal.invariant-loop-round
invariant-loop-round l =
    map frame_seen l.bodies.items ++ round_class (source_of l.sites).sites (frames_met (met_seen l.met)) l.here.0
    ≡ round_class (source_of l.sites).sites (frames_met (met_seen l.met)) l.fn.class.0

abbrev pub decreases-loop-round : goal.decreases-loop-round
decreases-loop-round l = l.here.0
