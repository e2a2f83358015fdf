use Rattle.std.proofs.Common.{◌≡◌, ◌++◌, Some, length, map}
use Rattle.std.specs.Prelude.{option_map}
use Rattle.je_core.specs.declared.types.ClassId.{ClassId}
use Rattle.call_typing.specs.Creations.{is_round}
use Rattle.class_typing.specs.Captures.{way_until}
use Rattle.name_typing.specs.Program.{frames}
use Rattle.body_places.specs.Places.{place_seen}
use Rattle.body_places.specs.View.{program_seen}
use Rattle.core_making.specs.Known.{captured_seen, round_seen}
use Rattle.core_making.specs.way.Seen.{above_seen}
use Rattle.core_making.specs.way.Upwards.{upwards}
use Rattle.core_making.proofs.ways.upwards.Given as goal

abbrev pub invariant-loop-left : goal.invariant-loop-left
invariant-loop-left l =
    map above_seen l.all.items ++ upwards (program_seen l.program) (captured_seen l.known.captured.now)
    (round_seen l.known.round.now) l.left (option_map (λ (c : ClassId). c.0) l.next) l.way.items
    ≡ upwards (program_seen l.program) (captured_seen l.known.captured.now) (round_seen l.known.round.now)
    (length (program_seen l.program).source.sites) (Some l.fn.class.0) (way_until (program_seen l.program)
    (captured_seen l.known.captured.now) (round_seen l.known.round.now) (is_round (program_seen l.program) l.fn.class.0)
    (frames (place_seen l.place)))

abbrev pub decreases-loop-left : goal.decreases-loop-left
decreases-loop-left l = l.left
