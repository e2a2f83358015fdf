-- Shifts (JLS 15.19). The distance is the right operand's lowest five bits for an int on the left, its lowest six for a
-- long.
use Rattle.std.specs.Prelude.{ℕ, ℤ, pos, ◌/◌, ◌^◌, ◌*ℤ◌}
use Rattle.std.specs.Int.{Width, cast_signed, cast_unsigned, int_rem_euclid, int_wrap}
use Rattle.std.specs.Int.RustNames.{unsigned_abs}
use lib.Signed.{shr_z}
use mir.Val.{bits}

abbrev pub distance : Width → ℤ → ℕ
distance w s = unsigned_abs (int_rem_euclid s (pos (bits w)))

-- `<<`: times a power of two
abbrev pub left_shift : Width → ℤ → ℤ → ℤ
left_shift w x s = int_wrap w (x *ℤ pos (2 ^ distance w s))

-- `>>`: over a power of two, rounded down
abbrev pub right_shift : Width → ℤ → ℤ → ℤ
right_shift w x s = shr_z x (2 ^ distance w s)

-- `>>>`: the same of the bits read as an unsigned number
abbrev pub unsigned_right_shift : Width → ℤ → ℤ → ℤ
unsigned_right_shift w x s = cast_signed w (cast_unsigned w x / 2 ^ distance w s)
