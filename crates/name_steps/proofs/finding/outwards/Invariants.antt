use Rattle.std.proofs.Common.{◌≡◌, ◌+◌, drop, map}
use Rattle.name_typing.specs.Variables.{outwards}
use Rattle.body_places.specs.Places.{frame_seen}
use Rattle.body_places.specs.View.{program_seen}
use Rattle.name_steps.proofs.finding.outwards.Given as goal

abbrev pub invariant-loop-at : goal.invariant-loop-at
invariant-loop-at l = outwards (program_seen l.program) (l.at + 1) l.name (map frame_seen (drop l.at l.round)) ≡ outwards (program_seen l.program) 1 l.name (map frame_seen l.round)
