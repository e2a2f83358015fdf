-- The list of the types above a type, in so many steps at most, and the ways that lead there.
use Rattle.std.proofs.Common.{◌≡◌, ℕ, zero, suc, ◌<◌, ◌≤◌, List, [], ◌∷◌, ◌++◌, refl, sym, ap, ◌∙◌, subst, arith}
use Rattle.std.specs.Prelude.{Bool, true, false, ◌||◌}
use Rattle.std.specs.List.{list_any, flat_map, Contains}
use Rattle.je_classes.proofs.Lists.{bool_cases, any-contains, contains-any}
use Rattle.je_scopes.specs.SourceTypes.{SourceType, same_source_type}
use Rattle.source_types.specs.Heads.{ClassHead}
use Rattle.source_types.specs.Supertypes.{directly_above, supertypes_within, most_steps, supertypes}
use Rattle.source_types.specs.Laws.{IsAcyclic}
use Rattle.source_types.proofs.Same.{same-refl, same-equal}

-- a way upwards from one type to another
pub data Above (heads : List ClassHead) : SourceType → SourceType → Type 0 where
  here : {t : SourceType} → Above heads t t
  up : {s t u : SourceType} → Contains (directly_above heads s) u → Above heads u t → Above heads s t

-- ---- a test over joined lists

or-assoc : (a b c : Bool) → ((a || b) || c) ≡ (a || (b || c))
or-assoc true b c = refl
or-assoc false b c = refl

pub any-append : {A : Type 0} (test : A → Bool) (xs ys : List A) → list_any test (xs ++ ys) ≡ (list_any test xs || list_any test ys)
any-append test [] ys = refl
any-append test (x ∷ xs) ys = ap (λ (b : Bool). test x || b) (any-append test xs ys) ∙ sym (or-assoc (test x) (list_any test xs) (list_any test ys))

pub any-flat : {A B : Type 0} (test : B → Bool) (f : A → List B) (xs : List A) → list_any test (flat_map f xs) ≡ list_any (λ x. list_any test (f x)) xs
any-flat test f [] = refl
any-flat test f (x ∷ xs) = any-append test (f x) (flat_map f xs) ∙ ap (λ (b : Bool). list_any test (f x) || b) (any-flat test f xs)

-- ---- whether a type is among those above one

module _ (heads : List ClassHead) where
  abbrev pub is_within : ℕ → SourceType → SourceType → Bool
  is_within n s t = list_any (λ u. same_source_type u t) (supertypes_within heads n s)

  pub step : (n : ℕ) (s t : SourceType) → is_within (suc n) s t ≡ (same_source_type s t || list_any (λ u. is_within n u t) (directly_above heads s))
  step n s t = ap (λ (b : Bool). same_source_type s t || b) (any-flat (λ u. same_source_type u t) (supertypes_within heads n) (directly_above heads s))

  or-right : (a b : Bool) → b ≡ true → (a || b) ≡ true
  or-right true b e = refl
  or-right false b e = e

  none-further : (b : Bool) → (b || false) ≡ true → b ≡ true
  none-further true e = refl
  none-further false e = e

  arrived : (s t : SourceType) → same_source_type s t ≡ true → Above heads s t
  arrived s t e = subst (Above heads s) (same-equal s t e) here

  sound : (n : ℕ) (s t : SourceType) → is_within n s t ≡ true → Above heads s t
  sound zero s t e = arrived s t (none-further (same_source_type s t) e)
  sound (suc n) s t e = bool_cases (λ b. (b || list_any (λ u. is_within n u t) (directly_above heads s)) ≡ true → Above heads s t) (same_source_type s t)
      (λ q h. arrived s t q)
      (λ q h. let p = contains-any (λ u. is_within n u t) (directly_above heads s) h in up p.there (sound n p.element t p.passes))
      (sym (step n s t) ∙ e)

  pub itself : (n : ℕ) (t : SourceType) → is_within n t t ≡ true
  itself zero t = rw (same-refl t) refl
  itself (suc n) t = rw (same-refl t) refl

  complete : (a : IsAcyclic heads) (n : ℕ) {s t : SourceType} → Above heads s t → a.depth s ≤ n → is_within n s t ≡ true
  complete a n (here {t = t}) h = itself n t
  complete a zero (up {s = s} {u = u} q r) h = absurd (let f : a.depth u < a.depth s = a.falls s u q in omega arith)
  complete a (suc n) (up {s = s} {t = t} {u = u} q r) h =
      step n s t ∙ or-right (same_source_type s t) _ (any-contains (λ k. is_within n k t) (directly_above heads s) u q
      (complete a n r (let f : a.depth u < a.depth s = a.falls s u q in omega arith)))

  pub above-to : (s t : SourceType) → list_any (λ u. same_source_type u t) (supertypes heads s) ≡ true → Above heads s t
  unfolding supertypes
  above-to s t e = sound (most_steps heads) s t e

  pub above-from : (a : IsAcyclic heads) (s t : SourceType) → Above heads s t → list_any (λ u. same_source_type u t) (supertypes heads s) ≡ true
  unfolding supertypes
  above-from a s t r = complete a (most_steps heads) r (a.within s)
