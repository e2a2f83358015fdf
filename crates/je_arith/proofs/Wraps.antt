-- What is left of a number in a type's bits, as std's methods compute it.
use Rattle.std.proofs.Common.{◌≡◌, ℕ, zero, suc, ◌+◌, ◌-◌, ◌*◌, ◌/◌, ◌%◌, ◌^◌, ◌<◌, ◌≤◌, refl, sym, ap, ◌∙◌, arith}
use Rattle.std.specs.Prelude.{ℤ, pos, negsuc, neg_ℤ, ◌*ℤ◌}
use Rattle.std.specs.Int.{Width, w32, w64, cast_signed, cast_unsigned, int_rem_euclid, int_shl, int_wrap, int_wrapping_div}
use Rattle.std.specs.Int.RustNames.{unsigned_abs, int_div, FitsSigned}
use Rattle.std.proofs.lemmas.Int.{to_z-of_z, int_wrap-mul_right, wrapping_mul-bits, wraps}
use native.Mathlib.Nat.{div-le_self, mod-eq_of_lt}
use Rattle.std.proofs.Math.Pow.{pow-lt}
use lib.Signed.{mag}
use mir.Val.{bits, hbits}
use mir.ValLaws as laws

pub wrap_is : (w : Width) (z : ℤ) → int_wrap w z ≡ cast_signed w (unsigned_abs (int_rem_euclid z (pos (2 ^ bits w))))
unfolding int_wrap
wrap_is w z = refl

wrap-pos : (w : Width) (n : ℕ) → n < 2 ^ bits w → int_wrap w (pos n) ≡ cast_signed w n
wrap-pos w n h = wrap_is w (pos n) ∙ ap (cast_signed w) (mod-eq_of_lt h)

-- a number whose bits fit the unsigned type
wrap-cast : (w : Width) (z : ℤ) → mag z < 2 ^ bits w → int_wrap w z ≡ cast_signed w (cast_unsigned w z)
wrap-cast w (pos n) h = wrap-pos w n h
wrap-cast w (negsuc a) h = wrap_is w (negsuc a) ∙ ap (cast_signed w) (let e = mod-eq_of_lt h in omega arith)

mag-neg : (n m : ℕ) → n ≤ m → mag (neg_ℤ (pos n)) ≤ m
mag-neg zero m h = omega arith
mag-neg (suc n) m h = omega arith

mag-div : (x y : ℤ) → mag (int_div x y) ≤ suc (mag x)
mag-div (pos a) (pos b) = omega (arith, div-le_self a b)
mag-div (pos a) (negsuc b) = mag-neg (a / suc b) (suc a) (omega (arith, div-le_self a (suc b)))
mag-div (negsuc a) (pos b) = mag-neg (suc a / b) (suc a) (omega (arith, div-le_self (suc a) b))
mag-div (negsuc a) (negsuc b) = omega (arith, div-le_self (suc a) (suc b))

pub wrapping_div_is : (w : Width) (x y : ℤ) → 2 ^ hbits w + 1 ≤ 2 ^ bits w → FitsSigned w x → int_wrapping_div w x y ≡ int_wrap w (int_div x y)
wrapping_div_is w x y h f = sym (wrap-cast w (int_div x y) (omega (arith, h, f.sfits, mag-div x y)))

pub shl_is : (w : Width) (x : ℤ) (k : ℕ) → 2 ^ k < 2 ^ bits w → FitsSigned w x → int_shl w x k ≡ int_wrap w (x *ℤ pos (2 ^ k))
shl_is w x k h f =
    wrapping_mul-bits w (cast_unsigned w x) (2 ^ k) (laws.of_z_fits w x f).fits h
    ∙ (λ i. int_wrap w (to_z-of_z w x f i *ℤ sym (wrap-pos w (2 ^ k) h) i))
    ∙ int_wrap-mul_right w x (pos (2 ^ k))

-- the same at the two widths, as a call has them

pub int_div_is : (x y : ℤ) → FitsSigned w32 x → int_wrapping_div w32 x y ≡ int_wrap w32 (int_div x y)
int_div_is x y f = wrapping_div_is w32 x y (omega arith) f

pub long_div_is : (x y : ℤ) → FitsSigned w64 x → int_wrapping_div w64 x y ≡ int_wrap w64 (int_div x y)
long_div_is x y f = wrapping_div_is w64 x y (omega arith) f

pub int_shl_is : (x : ℤ) (k : ℕ) → k < 32 → FitsSigned w32 x → int_shl w32 x (k % 32) ≡ int_wrap w32 (x *ℤ pos (2 ^ k))
int_shl_is x k h f = ap (int_shl w32 x) (mod-eq_of_lt h) ∙ shl_is w32 x k (pow-lt h) f

pub long_shl_is : (x : ℤ) (k : ℕ) → k < 64 → FitsSigned w64 x → int_shl w64 x (k % 64) ≡ int_wrap w64 (x *ℤ pos (2 ^ k))
long_shl_is x k h f = ap (int_shl w64 x) (mod-eq_of_lt h) ∙ shl_is w64 x k (pow-lt h) f

-- std's lemmas on wrapping
pub ruleset wrapped = (wraps)
