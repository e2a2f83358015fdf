-- Conversions between numeric types (JLS 5.1.2, 5.1.3, 5.1.4): the low bits of the number, read with the target's sign.
use Rattle.std.specs.Prelude.{ℕ, ℤ, pos, ◌^◌, Option, Some, None}
use Rattle.std.specs.Int.{w8, w16, w32, w64, int_rem_euclid, int_wrap}
use Rattle.std.specs.Int.RustNames.{unsigned_abs}
use Rattle.je_core.specs.declared.types.Base.{Base}
use Rattle.je_core.specs.declared.types.Base.TheVariants as base
use Rattle.je_core.specs.declared.value.Value.{Value}
use Rattle.je_core.specs.declared.value.Value.TheVariants.{Byte, Short, Char, Int, Long}

-- the number that a value is
abbrev pub number_of : Value → Option ℤ
number_of (Byte x) = Some x
number_of (Short x) = Some x
number_of (Char n) = Some (pos n)
number_of (Int x) = Some x
number_of (Long x) = Some x
number_of _ = None

-- a number as a value of a numeric type
abbrev pub as_base : Base → ℤ → Option Value
as_base base.Byte z = Some (Byte (int_wrap w8 z))
as_base base.Short z = Some (Short (int_wrap w16 z))
as_base base.Char z = Some (Char (unsigned_abs (int_rem_euclid z (pos (2 ^ 16)))))
as_base base.Int z = Some (Int (int_wrap w32 z))
as_base base.Long z = Some (Long (int_wrap w64 z))
as_base _ z = None

abbrev pub as_base_if : Base → Option ℤ → Option Value
as_base_if to None = None
as_base_if to (Some z) = as_base to z

-- a value in a type; none where the value is no number or the type isn't numeric
abbrev pub converted : Value → Base → Option Value
converted a to = as_base_if to (number_of a)
