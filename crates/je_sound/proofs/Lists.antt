-- Elements of lists, and of two lists side by side.
use Rattle.std.proofs.Common.{◌≡◌, ℕ, zero, suc, ◌+◌, List, [], ◌∷◌, ◌++◌, length, map, Some, refl, sym, ap, subst, ◌∙◌, inl, inr, arith}
use Rattle.std.specs.Prelude.{◌⊎◌, slice_get, slice_set}
use Rattle.std.specs.List.{All, AllZip}
use Rattle.std.proofs.lemmas.List.Elements.{All-nil, All-cons}
use Rattle.std.proofs.lemmas.Option.{same_Some}

module _ {A : Type 0} where
  -- what stands in front of a list stays there
  pub in-front : (xs ys : List A) (at : ℕ) (x : A) → slice_get xs at ≡ Some x → slice_get (xs ++ ys) at ≡ Some x
  in-front [] ys at x e = absurd cc
  in-front (y ∷ xs) ys zero x e = e
  in-front (y ∷ xs) ys (suc at) x e = in-front xs ys at x e

  pub behind : (xs ys : List A) (n : ℕ) → slice_get (xs ++ ys) (length xs + n) ≡ slice_get ys n
  behind [] ys n = let e : length {A = A} [] + n ≡ n = omega arith in ap (slice_get ys) e
  behind (x ∷ xs) ys n = let e : length (x ∷ xs) + n ≡ suc (length xs + n) = omega arith in ap (slice_get (x ∷ xs ++ ys)) e ∙ behind xs ys n

  pub all-places : (P : A → Type 0) (xs : List A) → ((at : ℕ) (x : A) → slice_get xs at ≡ Some x → P x) → All P xs
  all-places P [] f = All-nil P
  all-places P (x ∷ xs) f = All-cons P x xs (f 0 x refl) (all-places P xs (λ at y e. f (suc at) y e))

  -- what stands in a list after one element was put there: that one, or what stood there
  pub after-set : (xs : List A) (at other : ℕ) (old new x : A) → slice_get xs at ≡ Some old → slice_get xs other ≡ Some x →
      ((old ≡ x) × (slice_get (slice_set xs at new) other ≡ Some new)) ⊎ (slice_get (slice_set xs at new) other ≡ Some x)
  after-set [] at other old new x e f = absurd cc
  after-set (y ∷ xs) zero zero old new x e f = inl (same_Some old x (sym e ∙ f), refl)
  after-set (y ∷ xs) zero (suc other) old new x e f = inr f
  after-set (y ∷ xs) (suc at) zero old new x e f = inr f
  after-set (y ∷ xs) (suc at) (suc other) old new x e f = after-set xs at other old new x e f

  pub set-in-front : (xs ys : List A) (at : ℕ) (old new : A) → slice_get xs at ≡ Some old → slice_set (xs ++ ys) at new ≡ slice_set xs at new ++ ys
  set-in-front [] ys at old new e = absurd cc
  set-in-front (x ∷ xs) ys zero old new e = refl
  set-in-front (x ∷ xs) ys (suc at) old new e = ap (λ zs. x ∷ zs) (set-in-front xs ys at old new e)

  pub all-alike : {B : Type 0} (b : B) (xs : List A) (at : ℕ) (new : A) → map (λ x. b) (slice_set xs at new) ≡ map (λ x. b) xs
  all-alike b [] at new = refl
  all-alike b (x ∷ xs) zero new = refl
  all-alike b (x ∷ xs) (suc at) new = ap (λ bs. b ∷ bs) (all-alike b xs at new)

module _ {A B : Type 0} (R : A → B → Type 0) where
  -- the element at a place, and that of the other list there
  pub zip-at : (xs : List A) (ys : List B) → AllZip R xs ys → (at : ℕ) (x : A) → slice_get xs at ≡ Some x → (y : B) × (slice_get ys at ≡ Some y) × R x y
  zip-at [] ys z at x e = absurd cc
  zip-at (w ∷ xs) [] z at x e = absurd z
  zip-at (w ∷ xs) (y ∷ ys) z zero x e = (y, refl, subst (λ v. R v y) (same_Some w x e) z.0)
  zip-at (w ∷ xs) (y ∷ ys) z (suc at) x e = zip-at xs ys z.1 at x e

  pub zip-set : (xs : List A) (ys : List B) → AllZip R xs ys → (at : ℕ) (x : A) (y : B) → slice_get xs at ≡ Some x → R x y → AllZip R xs (slice_set ys at y)
  zip-set [] ys z at x y e r = absurd cc
  zip-set (w ∷ xs) [] z at x y e r = absurd z
  zip-set (w ∷ xs) (v ∷ ys) z zero x y e r = (subst (λ u. R u y) (sym (same_Some w x e)) r, z.1)
  zip-set (w ∷ xs) (v ∷ ys) z (suc at) x y e r = (z.0, zip-set xs ys z.1 at x y e r)

  pub zip-weaker : (Q : A → B → Type 0) → ((x : A) (y : B) → R x y → Q x y) → (xs : List A) (ys : List B) → AllZip R xs ys → AllZip Q xs ys
  zip-weaker Q f [] [] z = tt
  zip-weaker Q f [] (y ∷ ys) z = z
  zip-weaker Q f (x ∷ xs) [] z = z
  zip-weaker Q f (x ∷ xs) (y ∷ ys) z = (f x y z.0, zip-weaker Q f xs ys z.1)

  pub zip-length : (xs : List A) (ys : List B) → AllZip R xs ys → length xs ≡ length ys
  zip-length [] [] z = refl
  zip-length [] (y ∷ ys) z = absurd z
  zip-length (x ∷ xs) [] z = absurd z
  zip-length (x ∷ xs) (y ∷ ys) z = ap suc (zip-length xs ys z.1)
