-- Numbers and truths as texts: `toString` and `toHexString` of java.lang.Integer, `toString` of java.lang.Long,
-- and `valueOf` of java.lang.String.
use Rattle.std.specs.Prelude.{ℕ, ℤ, Bool, true, false, List, [], ◌∷◌, codes}
use Rattle.std.specs.Fmt.{digits, signed_decimal}
use Rattle.std.specs.Int.{w32, cast_unsigned}

-- `toString` of an int or a long: its decimal digits without leading zeros, behind a `-` where it is below 0
abbrev pub decimal_text : ℤ → List ℕ
decimal_text = signed_decimal

-- `toHexString`: the digits of an int's bits to the base 16, in lower case, without leading zeros
abbrev pub hex_text : ℤ → List ℕ
hex_text number = digits 16 false (cast_unsigned w32 number)

-- `valueOf` of a boolean
abbrev pub truth_text : Bool → List ℕ
truth_text true = codes "true"
truth_text false = codes "false"

-- `valueOf` of a char
abbrev pub unit_text : ℕ → List ℕ
unit_text unit = unit ∷ []
