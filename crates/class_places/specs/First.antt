-- What contracts see of which of all that was met tells where classes stand.
use Rattle.std.specs.Prelude.{◌≡◌, ℕ, ◌<◌, List, length, Option, Some, None, slice_get}
use Rattle.std.specs.List.{position}
use Rattle.body_typing.specs.Bodies.{Met}
use Rattle.class_typing.specs.Places.{stands_at}
use Rattle.class_places.specs.declared.first.Stands.{Stands}

abbrev pub place_in : Option (Option ℕ) → Option ℕ
place_in None = None
place_in (Some place) = place

abbrev pub place_of : Stands → ℕ → Option ℕ
place_of s c = place_in (slice_get s.places.items c)

-- of so many classes, of each the first that tells it
pub record AreFirst (count : ℕ) (met : List Met) (s : Stands) : Type 0 where
  pub whole : length s.places.items ≡ count
  pub each : (c : ℕ) → c < count → place_of s c ≡ position (stands_at c) met
