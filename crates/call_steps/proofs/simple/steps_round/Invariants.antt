use Rattle.std.proofs.Common.{◌≡◌, ◌+◌, drop, map}
use Rattle.call_typing.specs.Calls.{steps_from}
use Rattle.name_steps.specs.Places.{frame_seen, program_seen}
use Rattle.call_steps.proofs.simple.steps_round.Given as goal

abbrev pub invariant-loop-at : goal.invariant-loop-at
invariant-loop-at l =
    steps_from (program_seen l.calls.program) l.name (l.at + 1) (map frame_seen (drop l.at l.round))
    ≡ steps_from (program_seen l.calls.program) l.name 1 (map frame_seen l.round)
