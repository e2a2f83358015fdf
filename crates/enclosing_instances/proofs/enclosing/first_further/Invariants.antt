use Rattle.std.proofs.Common.{◌≡◌, ◌+◌, drop, map}
use Rattle.body_places.specs.Places.{frame_seen}
use Rattle.body_places.specs.View.{program_seen}
use Rattle.enclosing_instances.specs.way.Rounds.{first_round}
use Rattle.enclosing_instances.proofs.enclosing.first_further.Given as goal

abbrev pub invariant-loop-at : goal.invariant-loop-at
invariant-loop-at l =
    first_round (program_seen l.program) l.class.0 (l.at + 1) (map frame_seen (drop l.at l.round))
    ≡ first_round (program_seen l.program) l.class.0 1 (map frame_seen l.round)
