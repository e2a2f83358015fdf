-- In which order, and how often, the types above one are listed makes no difference to the only one of a class.
use Rattle.std.proofs.Common.{◌≡◌, ℕ, List, [], ◌∷◌, Option, Some, None, refl, sym, ap, ◌∙◌, subst}
use Rattle.std.specs.Prelude.{Bool, true, false, not, ◌&&◌, ◌||◌, if◌then◌else◌}
use Rattle.std.specs.List.{list_any, find}
use Rattle.je_classes.proofs.Lists.{bool_cases}
use Rattle.je_scopes.specs.SourceTypes.{SourceType, same_source_type}
use Rattle.source_types.specs.Heads.{ClassHead}
use Rattle.source_types.specs.Supertypes.{has_type, supertypes}
use Rattle.source_subtypes.specs.Above.{HasTypesAbove}
use Rattle.je_typing.specs.Castable.{is_of_class}
use Rattle.name_typing.specs.Fields.{if_one_list, is_other_list, only_of_class}
use Rattle.source_types.proofs.Same.{same-refl, same-equal}

abbrev Test : Type 0
Test = SourceType → Bool

-- ---- what a look-up in a list finds

either : (a b : Bool) → a ≡ true → (a || b) ≡ true
either true b e = refl
either false b e = absurd cc

later : (a b : Bool) → b ≡ true → (a || b) ≡ true
later true b e = refl
later false b e = e

any-has : (f : Test) (xs : List SourceType) (u : SourceType) → has_type xs u ≡ true → f u ≡ true → list_any f xs ≡ true
any-has f [] u h k = absurd cc
any-has f (x ∷ xs) u h k = bool_cases (λ b. same_source_type x u ≡ b → (b || has_type xs u) ≡ true → list_any f (x ∷ xs) ≡ true) (same_source_type x u)
    (λ _ e _. either (f x) (list_any f xs) (ap f (same-equal x u e) ∙ k))
    (λ _ _ g. later (f x) (list_any f xs) (any-has f xs u g k)) refl h

record Finds (f : Test) (xs : List SourceType) (u : SourceType) : Type 0 where
  there : has_type xs u ≡ true
  passes : f u ≡ true

finds-later : (f : Test) (x : SourceType) (xs : List SourceType) (u : SourceType) → Finds f xs u → Finds f (x ∷ xs) u
finds-later f x xs u h = record { there = later (same_source_type x u) (has_type xs u) h.there; passes = h.passes }

found : (f : Test) (xs : List SourceType) (u : SourceType) → find f xs ≡ Some u → Finds f xs u
found f [] u e = absurd cc
found f (x ∷ xs) u e = bool_cases (λ b. f x ≡ b → (if b then Some x else find f xs) ≡ Some u → Finds f (x ∷ xs) u) (f x)
    (λ _ h k. let s : x ≡ u = cc in record { there = either (same_source_type x u) (has_type xs u) (subst (λ (v : SourceType). same_source_type x v ≡ true) s (same-refl x)); passes = ap f (sym s) ∙ h })
    (λ _ h k. finds-later f x xs u (found f xs u k)) refl e

none-passes : (f : Test) (xs : List SourceType) → find f xs ≡ None → list_any f xs ≡ false
none-passes f [] e = refl
none-passes f (x ∷ xs) e = bool_cases (λ b. (if b then Some x else find f xs) ≡ None → (b || list_any f xs) ≡ false) (f x)
    (λ _ k. absurd cc) (λ _ k. none-passes f xs k) e

and-not : (a b : Bool) → a ≡ true → b ≡ false → (a && not b) ≡ true
and-not true false e f = refl
and-not true true e f = absurd cc
and-not false b e f = absurd cc

true-false : {b : Bool} → b ≡ true → b ≡ false → ⊥
true-false e f = cc

-- two types differ from both sides
apart : (u v : SourceType) → same_source_type u v ≡ false → same_source_type v u ≡ false
apart u v e = bool_cases (λ b. same_source_type v u ≡ b → same_source_type v u ≡ false) (same_source_type v u)
    (λ _ s. absurd (true-false (subst (λ (w : SourceType). same_source_type w v ≡ true) (same-equal v u s) (same-refl v)) e))
    (λ _ s. s) refl

-- ---- in lists that have the same types

module _ (heads : List ClassHead) (t : SourceType) (xs : List SourceType) (h : HasTypesAbove heads t xs) where
  moved : (f : Test) (u : SourceType) → Finds f xs u → Finds f (supertypes heads t) u
  moved f u k = record { there = sym (h.each u) ∙ k.there; passes = k.passes }

  moved-back : (f : Test) (u : SourceType) → Finds f (supertypes heads t) u → Finds f xs u
  moved-back f u k = record { there = h.each u ∙ k.there; passes = k.passes }

  any-there : (f : Test) (p q : Option SourceType) → find f xs ≡ p → find f (supertypes heads t) ≡ q → list_any f xs ≡ list_any f (supertypes heads t)
  any-there f None None e k = none-passes f xs e ∙ sym (none-passes f (supertypes heads t) k)
  any-there f (Some u) q e k =
      let a = found f xs u e in let b = moved f u a in
      any-has f xs u a.there a.passes ∙ sym (any-has f (supertypes heads t) u b.there b.passes)
  any-there f None (Some v) e k =
      let b = found f (supertypes heads t) v k in let a = moved-back f v b in
      any-has f xs v a.there a.passes ∙ sym (any-has f (supertypes heads t) v b.there b.passes)

  same-any : (f : Test) → list_any f xs ≡ list_any f (supertypes heads t)
  same-any f = any-there f (find f xs) (find f (supertypes heads t)) refl refl

  -- another one of the class passes this test
  other : (c : ℕ) (zs : List SourceType) (u v : SourceType) → same_source_type u v ≡ false → Finds (is_of_class c) zs v →
      list_any (is_other_list c u) zs ≡ true
  other c zs u v e k = any-has (is_other_list c u) zs v k.there (and-not (is_of_class c v) (same_source_type u v) k.passes e)

  both-only : (c : ℕ) (u v : SourceType) → Finds (is_of_class c) xs u → Finds (is_of_class c) (supertypes heads t) v →
      if_one_list c xs (Some u) ≡ if_one_list c (supertypes heads t) (Some v)
  both-only c u v k l = bool_cases (λ b. same_source_type u v ≡ b → if_one_list c xs (Some u) ≡ if_one_list c (supertypes heads t) (Some v)) (same_source_type u v)
      (λ _ s. rw (same-equal u v s, same-any (is_other_list c v)) refl)
      (λ _ s. rw (other c xs u v s (moved-back (is_of_class c) v l), other c (supertypes heads t) v u (apart u v s) (moved (is_of_class c) u k)) refl) refl

  only : (c : ℕ) (p q : Option SourceType) → find (is_of_class c) xs ≡ p → find (is_of_class c) (supertypes heads t) ≡ q →
      if_one_list c xs p ≡ if_one_list c (supertypes heads t) q
  only c None None e f = refl
  only c None (Some v) e f =
      let k = found (is_of_class c) (supertypes heads t) v f in
      let b = moved-back (is_of_class c) v k in
      absurd (true-false (any-has (is_of_class c) xs v b.there b.passes) (none-passes (is_of_class c) xs e))
  only c (Some u) None e f =
      let k = moved (is_of_class c) u (found (is_of_class c) xs u e) in
      absurd (true-false (any-has (is_of_class c) (supertypes heads t) u k.there k.passes) (none-passes (is_of_class c) (supertypes heads t) f))
  only c (Some u) (Some v) e f = both-only c u v (found (is_of_class c) xs u e) (found (is_of_class c) (supertypes heads t) v f)

pub only_above : (heads : List ClassHead) (t : SourceType) (xs : List SourceType) (c : ℕ) → HasTypesAbove heads t xs →
    only_of_class c xs ≡ only_of_class c (supertypes heads t)
only_above heads t xs c h = only heads t xs h c (find (is_of_class c) xs) (find (is_of_class c) (supertypes heads t)) refl refl
