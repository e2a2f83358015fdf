-- Comparison of numbers, and equality of numbers and of booleans (JLS 15.20.1, 15.21.1, 15.21.2).
use Rattle.std.specs.Prelude.{ℤ, Bool, true, false, not, ◌&&◌}
use Rattle.std.specs.Int.RustNames.{int_lt, int_le}

abbrev pub is_less : ℤ → ℤ → Bool
is_less x y = int_lt x y

abbrev pub is_at_most : ℤ → ℤ → Bool
is_at_most x y = int_le x y

abbrev pub is_same : ℤ → ℤ → Bool
is_same x y = int_le x y && int_le y x

abbrev pub is_same_truth : Bool → Bool → Bool
is_same_truth true b = b
is_same_truth false b = not b
