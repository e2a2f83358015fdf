-- Members of lists, and what tests say of them.
use Rattle.std.proofs.Common.{◌≡◌, ℕ, zero, suc, ◌<◌, List, [], ◌∷◌, map, take, refl, sym, ◌∙◌, subst, arith}
use Rattle.std.specs.Prelude.{Bool, true, false, slice_get}
use Rattle.std.specs.List.{Contains, flat_map, list_all, list_any}
use Rattle.je_classes.specs.Members.{In, first, further}
use Rattle.je_classes.proofs.Lists.{any-contains, bool_cases, contains-cases}
use Rattle.je_classes.proofs.Sets.{by_either, in-either, in-left, in-right}
use Rattle.source_types.proofs.Same.{and-left, and-right}
use Rattle.typing_laws.proofs.Subtypes.{contains-none}
use Rattle.fitting_laws.proofs.Lists.{contains-in}

module _ {A : Type 0} where
  pub any-in : (test : A → Bool) (xs : List A) (x : A) → In xs x → test x ≡ true → list_any test xs ≡ true
  any-in test xs x i e = any-contains test xs x (contains-in xs x i) e

  pub none-in : (test : A → Bool) (xs : List A) (x : A) → list_any test xs ≡ false → In xs x → test x ≡ false
  none-in test xs x e i = bool_cases (λ b. test x ≡ b → b ≡ false) (test x)
      (λ _ h. absurd (let no : true ≡ false = sym (any-in test xs x i h) ∙ e in cc))
      (λ _ h. refl) refl

  pub all-passes : (test : A → Bool) (xs : List A) (x : A) → list_all test xs ≡ true → In xs x → test x ≡ true
  all-passes test [] x e i = elim i [ ]
  all-passes test (y ∷ xs) _ e first = and-left (test y) (list_all test xs) e
  all-passes test (y ∷ xs) x e (further i) = all-passes test xs x (and-right (test y) (list_all test xs) e) i

  pub record FromOne {B : Type 0} (f : B → List A) (ys : List B) (x : A) : Type 0 where
    pub one : B
    pub there : In ys one
    pub has : In (f one) x

  pub flat-in : {B : Type 0} (f : B → List A) (ys : List B) (x : A) → In (flat_map f ys) x → FromOne f ys x
  flat-in f [] x i = elim i [ ]
  flat-in f (y ∷ ys) x i = by_either
      (λ r. record { one = y; there = first; has = r })
      (λ r. let later = flat-in f ys x r in record { one = later.one; there = further later.there; has = later.has }) (in-either (f y) i)

  pub in-flat : {B : Type 0} (f : B → List A) (ys : List B) (y : B) (x : A) → In ys y → In (f y) x → In (flat_map f ys) x
  in-flat f [] y x i k = elim i [ ]
  in-flat f (_ ∷ ys) _ x first k = in-left (flat_map f ys) k
  in-flat f (z ∷ ys) y x (further i) k = in-right (f z) (in-flat f ys y x i k)

  pub in-map : {B : Type 0} (f : B → A) (ys : List B) (y : B) → In ys y → In (map f ys) (f y)
  in-map f [] y i = elim i [ ]
  in-map f (_ ∷ ys) _ first = first
  in-map f (z ∷ ys) y (further i) = further (in-map f ys y i)

  pub contained : (xs : List A) (x : A) → Contains xs x → In xs x
  contained [] x i = absurd (contains-none x i)
  contained (y ∷ xs) x i = by_either (λ e. subst (λ (z : A). In (y ∷ xs) z) e first) (λ r. further (contained xs x r)) (contains-cases y x xs i)

  pub taken : (xs : List A) (n i : ℕ) → i < n → slice_get (take n xs) i ≡ slice_get xs i
  taken xs zero i h = absurd (omega arith)
  taken [] (suc n) i h = refl
  taken (x ∷ xs) (suc n) zero h = refl
  taken (x ∷ xs) (suc n) (suc i) h = taken xs n i (omega arith)
