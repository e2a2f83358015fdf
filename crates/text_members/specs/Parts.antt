-- A unit of a text and parts of it: `charAt`, `substring` and `trim` of java.lang.String.
use Rattle.std.specs.Prelude.{ℕ, ℤ, pos, negsuc, ◌-◌, Bool, ◌&&◌, nat_lt, nat_le, List, length, take, drop, slice_get, slice_range, Option, Some, None, if◌then◌else◌}
use Rattle.std.specs.List.{prefix_len, suffix_len}

-- the place that an int means among so many units; none where it is below 0 or past the last
abbrev pub place_among : ℕ → ℤ → Option ℕ
place_among count (pos n) = if nat_lt n count then Some n else None
place_among count (negsuc n) = None

-- `charAt`: the unit at a place; none where the place is out of range
abbrev pub unit_at : List ℕ → ℤ → Option ℕ
unit_at units (pos n) = slice_get units n
unit_at units (negsuc n) = None

abbrev pub part_between : List ℕ → ℕ → ℕ → Option (List ℕ)
part_between units begin end =
    if nat_le begin end && nat_le end (length units) then Some (slice_range units begin end) else None

-- `substring`: the units from `begin` up to `end`; there exactly where 0 <= begin <= end <= length
abbrev pub substring : List ℕ → ℤ → ℤ → Option (List ℕ)
substring units (pos begin) (pos end) = part_between units begin end
substring units _ _ = None

-- `substring` of one place: the units from `begin` to the end
abbrev pub substring_from : List ℕ → ℤ → Option (List ℕ)
substring_from units (pos begin) = part_between units begin (length units)
substring_from units (negsuc n) = None

-- a unit up to 32, which is a space
abbrev pub is_blank : ℕ → Bool
is_blank unit = nat_le unit 32

abbrev pub without_blanks_in_front : List ℕ → List ℕ
without_blanks_in_front units = drop (prefix_len is_blank units) units

abbrev pub without_blanks_behind : List ℕ → List ℕ
without_blanks_behind units = take (length units - suffix_len is_blank units) units

-- `trim`: without the blanks at both ends
abbrev pub trimmed : List ℕ → List ℕ
trimmed units = without_blanks_behind (without_blanks_in_front units)
