-- Subtypes by how many dimensions the two types have.
use Rattle.std.proofs.Common.{◌≡◌, ◌<◌, ℕ, zero, suc, refl, arith}
use Rattle.std.specs.Prelude.{Bool, true, false, ◌||◌}
use Rattle.je_core.specs.declared.types.Base.{Base}
use Rattle.je_core.specs.declared.types.Ty.{Ty}
use Rattle.je_core.specs.Core.{CoreProgram}
use Rattle.je_classes.specs.Subtypes.{same_base, is_object, is_null, is_base_below, are_components_below, are_below, is_subtype}

module _ (p : CoreProgram) (a b : Base) where
  components_fewer : (m n : ℕ) → m < n → are_components_below p a m b n ≡ is_null a
  components_fewer zero zero l = absurd (omega arith)
  components_fewer zero (suc n) l = refl
  components_fewer (suc m) zero l = absurd (omega arith)
  components_fewer (suc m) (suc n) l = components_fewer m n (omega (arith, l))

  components_more : (m n : ℕ) → n < m → are_components_below p a m b n ≡ is_object b
  components_more zero n l = absurd (omega arith)
  components_more (suc m) zero l = refl
  components_more (suc m) (suc n) l = components_more m n (omega (arith, l))

  components_alike : (m : ℕ) → are_components_below p a m b m ≡ (is_base_below p a b || same_base a b)
  components_alike zero = refl
  components_alike (suc m) = components_alike m

  below_fewer : (m n : ℕ) → m < n → are_below p a m b n ≡ is_null a
  below_fewer zero zero l = absurd (omega arith)
  below_fewer zero (suc n) l = refl
  below_fewer (suc m) zero l = absurd (omega arith)
  below_fewer (suc m) (suc n) l = components_fewer m n (omega (arith, l))

  below_more : (m n : ℕ) → n < m → are_below p a m b n ≡ is_object b
  below_more zero n l = absurd (omega arith)
  below_more (suc m) zero l = refl
  below_more (suc m) (suc n) l = components_more m n (omega (arith, l))

  or-right : (x : Bool) → (x || true) ≡ true
  or-right true = refl
  or-right false = refl

  or-left : (x : Bool) → (x || false) ≡ x
  or-left true = refl
  or-left false = refl

  below_alike : (m : ℕ) → 0 < m → same_base a b ≡ true → are_below p a m b m ≡ true
  below_alike zero l e = absurd (omega arith)
  below_alike (suc m) l e = rw (components_alike m, e) (or-right (is_base_below p a b))

  below_as_many : (m : ℕ) → same_base a b ≡ false → are_below p a m b m ≡ is_base_below p a b
  below_as_many zero e = refl
  below_as_many (suc m) e = rw (components_alike m, e) (or-left (is_base_below p a b))

  below_bases : are_below p a 0 b 0 ≡ is_base_below p a b
  below_bases = refl

pub fewer : (p : CoreProgram) (s t : Ty) → s.dims < t.dims → is_null s.base ≡ is_subtype p s t
unfolding is_subtype
fewer p s t l = rw (below_fewer p s.base t.base s.dims t.dims l) refl

pub more : (p : CoreProgram) (s t : Ty) → t.dims < s.dims → is_object t.base ≡ is_subtype p s t
unfolding is_subtype
more p s t l = rw (below_more p s.base t.base s.dims t.dims l) refl

pub alike : (p : CoreProgram) (s t : Ty) → s.dims ≡ t.dims → 0 < s.dims → same_base s.base t.base ≡ true → true ≡ is_subtype p s t
unfolding is_subtype
alike p s t e l h = rw e (rw (below_alike p s.base t.base t.dims (omega (arith, e, l)) h) refl)

pub as_many : (p : CoreProgram) (s t : Ty) → s.dims ≡ t.dims → same_base s.base t.base ≡ false → is_base_below p s.base t.base ≡ is_subtype p s t
unfolding is_subtype
as_many p s t e h = rw e (rw (below_as_many p s.base t.base t.dims h) refl)

pub bases : (p : CoreProgram) (s t : Ty) → s.dims ≡ 0 → t.dims ≡ 0 → is_base_below p s.base t.base ≡ is_subtype p s t
unfolding is_subtype
bases p s t e f = rw (e, f) refl
