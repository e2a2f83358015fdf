-- What contracts see of a scope that is kept.
use Rattle.std.specs.Prelude.{map}
use Rattle.body_typing.specs.FinalVariables.{Scope}
use Rattle.body_places.specs.Places.{frame_seen}
use Rattle.body_walks.specs.declared.met.Standing.{Standing}

abbrev pub standing_seen : Standing → Scope
standing_seen s = record {
  place = record { here = frame_seen s.here; round = map frame_seen s.round.items };
  is_constructor = s.is_constructor;
  given = s.given.items;
}
