-- Elements of two lists behind each other.
use Rattle.std.proofs.Common.{◌≡◌, ℕ, zero, suc, ◌+◌, ◌-◌, ◌<◌, ◌≤◌, List, [], ◌∷◌, ◌++◌, length, Some, refl, sym, ap, ◌∙◌, subst, arith}
use Rattle.std.specs.Prelude.{drop, slice_get}
use Rattle.std.specs.List.{AllZip}
use Rattle.std.proofs.lemmas.Option.{none-some, same_Some}
use Rattle.je_classes.specs.Members.{In, first, further}

pub behind : {A : Type 0} (xs ys : List A) (n : ℕ) → slice_get (xs ++ ys) (length xs + n) ≡ slice_get ys n
behind {A} [] ys n = let e : length {A = A} [] + n ≡ n = omega arith in ap (slice_get ys) e
behind (x ∷ xs) ys n = let e : length (x ∷ xs) + n ≡ suc (length xs + n) = omega arith in ap (slice_get (x ∷ xs ++ ys)) e ∙ behind xs ys n

-- by the place in both
pub later : {A : Type 0} (xs ys : List A) (n : ℕ) → length xs ≤ n → slice_get (xs ++ ys) n ≡ slice_get ys (n - length xs)
later xs ys n le = let e : n ≡ length xs + (n - length xs) = omega (arith, le) in ap (slice_get (xs ++ ys)) e ∙ behind xs ys (n - length xs)

-- within a list there is an element
pub record Placed {A : Type 0} (xs : List A) (n : ℕ) : Type 0 where
  pub element : A
  pub is : slice_get xs n ≡ Some element

pub placed : {A : Type 0} (xs : List A) (n : ℕ) → n < length xs → Placed xs n
placed [] n l = absurd (omega (arith, l))
placed (x ∷ xs) zero l = record { element = x; is = refl }
placed (x ∷ xs) (suc n) l = let p = placed xs n (omega (arith, l)) in record { element = p.element; is = p.is }

pub dropped : {A : Type 0} (n : ℕ) (xs : List A) (k : ℕ) → slice_get (drop n xs) k ≡ slice_get xs (n + k)
dropped zero xs k = let e : k ≡ 0 + k = omega arith in ap (slice_get xs) e
dropped (suc n) [] k = refl
dropped (suc n) (x ∷ xs) k = let e : suc n + k ≡ suc (n + k) = omega arith in dropped n xs k ∙ sym (ap (slice_get (x ∷ xs)) e)

-- ---- two lists, place by place

-- the element of the one at a place of the other
pub record Beside {A B : Type 0} (R : A → B → Type 0) (xs : List A) (k : ℕ) (y : B) : Type 0 where
  pub element : A
  pub is : slice_get xs k ≡ Some element
  pub holds : R element y

pub beside : {A B : Type 0} (R : A → B → Type 0) (xs : List A) (ys : List B) (k : ℕ) (y : B) → AllZip R xs ys →
    slice_get ys k ≡ Some y → Beside R xs k y
beside R [] [] k y z e = absurd (none-some y e)
beside R [] (b ∷ ys) k y z e = absurd z
beside R (x ∷ xs) [] k y z e = absurd z
beside R (x ∷ xs) (b ∷ ys) zero y z e = record { element = x; is = refl; holds = subst (R x) (same_Some b y e) z.0 }
beside R (x ∷ xs) (b ∷ ys) (suc k) y z e = let r = beside R xs ys k y z.1 e in record { element = r.element; is = r.is; holds = r.holds }

-- and of the other at a place of the one
pub beside-first : {A B : Type 0} (R : A → B → Type 0) (xs : List A) (ys : List B) (k : ℕ) (x : A) → AllZip R xs ys →
    slice_get xs k ≡ Some x → Beside (λ y x. R x y) ys k x
beside-first R [] [] k x z e = absurd (none-some x e)
beside-first R [] (b ∷ ys) k x z e = absurd z
beside-first R (a ∷ xs) [] k x z e = absurd z
beside-first R (a ∷ xs) (b ∷ ys) zero x z e = record { element = b; is = refl; holds = subst (λ a. R a b) (same_Some a x e) z.0 }
beside-first R (a ∷ xs) (b ∷ ys) (suc k) x z e =
    let r = beside-first R xs ys k x z.1 e in record { element = r.element; is = r.is; holds = r.holds }

pub zipped-append : {A B : Type 0} (R : A → B → Type 0) (xs : List A) (ys : List B) (us : List A) (vs : List B) →
    AllZip R xs ys → AllZip R us vs → AllZip R (xs ++ us) (ys ++ vs)
zipped-append R [] [] us vs z w = w
zipped-append R [] (b ∷ ys) us vs z w = absurd z
zipped-append R (x ∷ xs) [] us vs z w = absurd z
zipped-append R (x ∷ xs) (b ∷ ys) us vs z w = (z.0, zipped-append R xs ys us vs z.1 w)

-- an element by its place is among the others
pub in-got : {A : Type 0} (xs : List A) (n : ℕ) (x : A) → slice_get xs n ≡ Some x → In xs x
in-got [] n x e = absurd (none-some x e)
in-got (y ∷ xs) zero x e = subst (In (y ∷ xs)) (same_Some y x e) first
in-got (y ∷ xs) (suc n) x e = further (in-got xs n x e)
