-- Texts compared: `equals`, `compareTo` and `hashCode` of java.lang.String; a count as an int.
use Rattle.std.specs.Prelude.{ℕ, ℤ, pos, ◌-ℤ◌, ◌+◌, ◌*◌, ◌^◌, Bool, ◌==◌, List, [], ◌∷◌, length, Option, Some, None, unwrap_or, if◌then◌else◌}
use Rattle.std.specs.Int.{w32, int_wrap}
use Rattle.std.specs.Str.{bytes_eq}

-- `equals`, of two texts: the same units in the same order
abbrev pub is_same_text : List ℕ → List ℕ → Bool
is_same_text = bytes_eq

-- the difference of the first units that differ, of two at one place
abbrev pub first_difference : List ℕ → List ℕ → Option ℤ
first_difference [] _ = None
first_difference (a ∷ left) [] = None
first_difference (a ∷ left) (b ∷ right) =
    if a == b then first_difference left right else Some (pos a -ℤ pos b)

-- `compareTo`: the difference of the first units that differ, else of the lengths, as an int
abbrev pub compared : List ℕ → List ℕ → ℤ
compared left right =
    int_wrap w32 (unwrap_or (first_difference left right) (pos (length left) -ℤ pos (length right)))

-- s[0] * 31^(n-1) + s[1] * 31^(n-2) + .. + s[n-1]
abbrev pub weighed : List ℕ → ℕ
weighed [] = 0
weighed (unit ∷ units) = unit * 31 ^ length units + weighed units

-- a count, a length or a place, as an int
abbrev pub count_as_int : ℕ → ℤ
count_as_int count = int_wrap w32 (pos count)

-- `hashCode`
abbrev pub hash_code : List ℕ → ℤ
hash_code units = count_as_int (weighed units)
