-- The number that a text writes: `parseInt` of java.lang.Integer and `parseLong` of java.lang.Long.
use Rattle.std.specs.Prelude.{ℕ, ℤ, pos, negsuc, neg_ℤ, ◌+◌, ◌-◌, ◌*◌, ◌^◌, Bool, ◌&&◌, ◌==◌, nat_lt, nat_le, List, [], ◌∷◌, Option, Some, None, option_map, if◌then◌else◌}

-- `0` to `9`
abbrev pub is_digit : ℕ → Bool
is_digit unit = nat_le 48 unit && nat_le unit 57

-- the number that digits write behind those of `number`; none where a unit is no digit
abbrev pub number_behind : ℕ → List ℕ → Option ℕ
number_behind number [] = Some number
number_behind number (unit ∷ units) =
    if is_digit unit then number_behind (number * 10 + (unit - 48)) units else None

-- the number that digits write; none where there is no digit, or a unit that is none
abbrev pub natural_in : List ℕ → Option ℕ
natural_in [] = None
natural_in (unit ∷ units) = number_behind 0 (unit ∷ units)

abbrev pub negative : ℕ → ℤ
negative number = neg_ℤ (pos number)

-- the number that a text writes: digits, behind a `-` (45) or not
abbrev pub number_in : List ℕ → Option ℤ
number_in [] = None
number_in (unit ∷ units) =
    if unit == 45 then option_map negative (natural_in units)
    else option_map pos (natural_in (unit ∷ units))

-- -limit <= number < limit
abbrev pub is_within : ℕ → ℤ → Bool
is_within limit (pos n) = nat_lt n limit
is_within limit (negsuc n) = nat_lt n limit

-- the number, where it is within the limit
abbrev pub kept_within : ℕ → Option ℤ → Option ℤ
kept_within limit None = None
kept_within limit (Some number) = if is_within limit number then Some number else None

-- `parseInt`: the int that a text writes; none where it writes no number or the number is no int
abbrev pub parsed_int : List ℕ → Option ℤ
parsed_int units = kept_within (2 ^ 31) (number_in units)

-- `parseLong`: the same of a long
abbrev pub parsed_long : List ℕ → Option ℤ
parsed_long units = kept_within (2 ^ 63) (number_in units)
