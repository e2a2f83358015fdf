-- Texts made of others: `replace` and `concat` of java.lang.String; `append`, `setCharAt` and `deleteCharAt` of
-- java.lang.StringBuilder.
use Rattle.std.specs.Prelude.{◌≡◌, ℕ, ℤ, ◌+◌, ◌≤◌, Bool, ◌==◌, nat_le, List, ◌++◌, length, take, map, remove, slice_set, Option, Some, None, option_map, if◌then◌else◌}
use Rattle.text_members.specs.Parts.{place_among}

abbrev pub exchanged : ℕ → ℕ → ℕ → ℕ
exchanged old new unit = if unit == old then new else unit

-- `replace`: each unit that is equal to `old` exchanged for `new`
abbrev pub replaced : List ℕ → ℕ → ℕ → List ℕ
replaced units old new = map (exchanged old new) units

-- the most units that a builder holds
abbrev pub most_units : ℕ
most_units = 100000000

-- a builder of so many units has room for so many more
abbrev pub has_room : ℕ → ℕ → Bool
has_room count more = nat_le (count + more) most_units

-- `append`: the units of a text behind those of a builder; none where the builder has no room for them
abbrev pub appended : List ℕ → List ℕ → Option (List ℕ)
appended units text = if has_room (length units) (length text) then Some (units ++ text) else None

-- `setCharAt`: another unit at a place; none where the place is out of range
abbrev pub with_unit : List ℕ → ℤ → ℕ → Option (List ℕ)
with_unit units place unit = option_map (λ at. slice_set units at unit) (place_among (length units) place)

-- `deleteCharAt`: without the unit at a place; none where the place is out of range
abbrev pub without_unit : List ℕ → ℤ → Option (List ℕ)
without_unit units place = option_map (λ at. remove units at) (place_among (length units) place)

-- some units of the text, from its first on, stand behind the old ones
pub record IsPartlyAppended (old text new : List ℕ) : Type 0 where
  pub count : ℕ
  pub fits : count ≤ length text
  pub units : new ≡ old ++ take count text
