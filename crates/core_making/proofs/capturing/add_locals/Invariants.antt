use Rattle.std.proofs.Common.{◌≡◌, ◌+◌, ◌++◌, drop, map}
use Rattle.class_typing.specs.Captures.{local_captures}
use Rattle.je_core.specs.View.{capture_view}
use Rattle.body_places.specs.Places.{place_seen}
use Rattle.body_places.specs.View.{program_seen}
use Rattle.core_making.specs.Known.{captured_local_seen, captured_seen, round_seen}
use Rattle.core_making.proofs.capturing.add_locals.Given as goal

abbrev pub invariant-loop-at : goal.invariant-loop-at
invariant-loop-at l =
    map capture_view l.captures.items ++ local_captures (program_seen l.program) (captured_seen l.known.captured.now)
    (round_seen l.known.round.now) (place_seen l.place) l.class.0 (l.first + l.at) (map captured_local_seen (drop l.at l.locals))
    ≡ map capture_view l.fn.captures.items ++ local_captures (program_seen l.program) (captured_seen l.known.captured.now)
    (round_seen l.known.round.now) (place_seen l.place) l.class.0 l.first (captured_seen l.known.captured.now l.class.0)
