-- Bitwise and logical operators (JLS 15.15.5, 15.15.6, 15.22): bit by bit in two's complement, and on booleans.
use Rattle.std.specs.Prelude.{ℤ, pos, negsuc, Bool, true, false, not, ◌&&◌, ◌||◌}
use Rattle.std.specs.Int.{Width, int_bit_and, int_bit_or, int_bit_xor}

abbrev pub conjunction : Width → ℤ → ℤ → ℤ
conjunction w x y = int_bit_and w x y

abbrev pub disjunction : Width → ℤ → ℤ → ℤ
disjunction w x y = int_bit_or w x y

abbrev pub exclusive : Width → ℤ → ℤ → ℤ
exclusive w x y = int_bit_xor w x y

-- -x - 1
abbrev pub complement : ℤ → ℤ
complement (pos n) = negsuc n
complement (negsuc n) = pos n

abbrev pub exclusive_truth : Bool → Bool → Bool
exclusive_truth true b = not b
exclusive_truth false b = b
