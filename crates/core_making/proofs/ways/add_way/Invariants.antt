use Rattle.std.proofs.Common.{◌≡◌, ◌++◌, drop, map}
use Rattle.call_typing.specs.Creations.{is_round}
use Rattle.class_typing.specs.Captures.{way_until}
use Rattle.body_places.specs.Places.{frame_seen}
use Rattle.body_places.specs.View.{program_seen}
use Rattle.core_making.specs.Known.{captured_seen, round_seen}
use Rattle.core_making.proofs.ways.add_way.Given as goal

abbrev pub invariant-loop-frame : goal.invariant-loop-frame
invariant-loop-frame l =
    l.way.items ++ way_until (program_seen l.program) (captured_seen l.known.captured.now) (round_seen l.known.round.now)
    (is_round (program_seen l.program) l.class.0) (map frame_seen (drop l.frame-index l.frames))
    ≡ l.fn.way.items ++ way_until (program_seen l.program) (captured_seen l.known.captured.now) (round_seen l.known.round.now)
    (is_round (program_seen l.program) l.class.0) (map frame_seen l.frames)
