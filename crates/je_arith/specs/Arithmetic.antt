-- Arithmetic on int and long (JLS 15.15.4, 15.17, 15.18.2): the low bits of the exact result, in two's complement.
use Rattle.std.specs.Prelude.{ℤ, neg_ℤ, ◌+ℤ◌, ◌-ℤ◌, ◌*ℤ◌}
use Rattle.std.specs.Int.{Width, int_wrap}
use Rattle.std.specs.Int.RustNames.{int_div, int_rem}

abbrev pub product : Width → ℤ → ℤ → ℤ
product w x y = int_wrap w (x *ℤ y)

abbrev pub sum_of : Width → ℤ → ℤ → ℤ
sum_of w x y = int_wrap w (x +ℤ y)

abbrev pub difference : Width → ℤ → ℤ → ℤ
difference w x y = int_wrap w (x -ℤ y)

-- rounded towards zero; the least value over -1 is beyond the greatest, and wraps to the least
abbrev pub quotient : Width → ℤ → ℤ → ℤ
quotient w x y = int_wrap w (int_div x y)

-- with the dividend's sign
abbrev pub remainder : ℤ → ℤ → ℤ
remainder x y = int_rem x y

abbrev pub negation : Width → ℤ → ℤ
negation w x = int_wrap w (neg_ℤ x)
