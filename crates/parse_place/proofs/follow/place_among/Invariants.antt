use Rattle.std.proofs.Common.{◌≡◌, ◌-◌, length}
use Rattle.parse_laws.specs.way.Place.{follow_quickly_at}
use Rattle.parse_place.specs.way.Readings.{quick_place_at}
use Rattle.parse_place.specs.way.Views.{context_view}
use Rattle.parse_place.proofs.follow.place_among.Given as goal

abbrev pub invariant-loop : goal.invariant-loop
invariant-loop g l =
    follow_quickly_at l.setting.names.now l.setting.texts.now l.setting.below (length l.fn.tokens - l.counter) (context_view l.context) l.opened l.next
    ≡ quick_place_at l.fn.setting l.fn.tokens
