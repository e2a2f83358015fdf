-- Numbers of numbers: `bitCount` of java.lang.Integer; `abs`, `max` and `min` of java.lang.Math.
use Rattle.std.specs.Prelude.{ℕ, zero, suc, ◌+◌, ◌/◌, ◌%◌, ℤ, pos, neg_ℤ, if◌then◌else◌}
use Rattle.std.specs.Int.{Width, w32, cast_unsigned, int_wrap, is_negative}
use Rattle.std.specs.Int.RustNames.{int_lt}

-- how many of a number's lowest binary digits are 1
unfoldable pub ones_among : ℕ → ℕ → ℕ
ones_among zero number = 0
ones_among (suc count) number = number % 2 + ones_among count (number / 2)

-- `bitCount`: how many bits of an int are 1
abbrev pub bit_count : ℤ → ℤ
bit_count number = pos (ones_among 32 (cast_unsigned w32 number))

-- `abs`: the number, or where it is below 0 its negation, which for the least number of its width wraps to itself
abbrev pub absolute : Width → ℤ → ℤ
absolute width number = if is_negative number then int_wrap width (neg_ℤ number) else number

-- `max`
abbrev pub greater : ℤ → ℤ → ℤ
greater x y = if int_lt x y then y else x

-- `min`
abbrev pub less : ℤ → ℤ → ℤ
less x y = if int_lt y x then y else x
