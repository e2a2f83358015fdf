use Rattle.std.proofs.Common.{◌≡◌, ◌≤◌, drop, length, map}
use Rattle.je_core.specs.View.{capture_view}
use Rattle.body_places.specs.Places.{place_seen}
use Rattle.body_places.specs.View.{program_seen}
use Rattle.core_making.specs.Known.{captured_seen, round_seen}
use Rattle.core_making.specs.way.Seen.{above_seen}
use Rattle.core_making.specs.way.Upwards.{captures_of}
use Rattle.core_making.proofs.capturing.captures_of.Given as goal

abbrev pub invariant-loop-at : goal.invariant-loop-at
invariant-loop-at l = record {
  within : l.at ≤ length l.all;
  done : map capture_view l.captures.items ≡ captures_of (program_seen l.program) (captured_seen l.known.captured.now)
      (round_seen l.known.round.now) (place_seen l.place) (map above_seen (drop l.at l.all));
}

abbrev pub decreases-loop-at : goal.decreases-loop-at
decreases-loop-at l = l.at
