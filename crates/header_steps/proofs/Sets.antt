-- Two lists that have the same types pass the same tests.
use Rattle.std.proofs.Common.{◌≡◌, List, [], ◌∷◌, refl, sym, subst, ◌∙◌}
use Rattle.std.specs.Prelude.{Bool, true, false, ◌||◌}
use Rattle.std.specs.List.{list_any}
use Rattle.je_classes.proofs.Lists.{bool_cases}
use Rattle.je_scopes.specs.SourceTypes.{SourceType, same_source_type}
use Rattle.source_types.specs.Heads.{ClassHead}
use Rattle.source_types.specs.Supertypes.{has_type, supertypes}
use Rattle.source_types.proofs.Same.{same-refl, same-equal}
use Rattle.source_subtypes.specs.Above.{HasTypesAbove}
use Rattle.header_typing.specs.Supers.{has_two_lists, is_other_of}

or-left : (a b : Bool) → a ≡ true → (a || b) ≡ true
or-left a b e = rw e refl

or-right : (a b : Bool) → b ≡ true → (a || b) ≡ true
or-right true b e = refl
or-right false b e = e

one-of : {C : Type 0} (a b : Bool) → (a || b) ≡ true → (a ≡ true → C) → (b ≡ true → C) → C
one-of true b e left right = left refl
one-of false b e left right = right e

differ : false ≡ true → ⊥
differ p = absurd cc

module _ (test : SourceType → Bool) where
  passes : (ys : List SourceType) (t : SourceType) → has_type ys t ≡ true → test t ≡ true → list_any test ys ≡ true
  passes [] t h e = absurd cc
  passes (y ∷ ys) t h e = one-of (same_source_type y t) (has_type ys t) h
      (λ s. or-left (test y) (list_any test ys) (subst (λ (u : SourceType). test u ≡ true) (sym (same-equal y t s)) e))
      (λ r. or-right (test y) (list_any test ys) (passes ys t r e))

  pass : (xs ys : List SourceType) → ((t : SourceType) → has_type xs t ≡ true → has_type ys t ≡ true) → list_any test xs ≡ true → list_any test ys ≡ true
  pass [] ys h e = absurd cc
  pass (x ∷ xs) ys h e = one-of (test x) (list_any test xs) e
      (λ s. passes ys x (h x (or-left (same_source_type x x) (has_type xs x) (same-refl x))) s)
      (λ r. pass xs ys (λ t s. h t (or-right (same_source_type x t) (has_type xs t) s)) r)

  pub same_test : (xs ys : List SourceType) → ((t : SourceType) → has_type xs t ≡ has_type ys t) → list_any test xs ≡ list_any test ys
  same_test xs ys h = bool_cases (λ b. b ≡ list_any test ys) (list_any test xs)
      (λ e. sym (pass xs ys (λ t s. sym (h t) ∙ s) e))
      (λ e. bool_cases (λ b. false ≡ b) (list_any test ys) (λ s. absurd (differ (sym e ∙ pass ys xs (λ t r. h t ∙ r) s))) (λ s. refl))

pub two_lists : (heads : List ClassHead) (t : SourceType) (types : List SourceType) → HasTypesAbove heads t types → has_two_lists types ≡ has_two_lists (supertypes heads t)
two_lists heads t types h =
    (λ i. list_any (λ u. same_test (is_other_of u) types (supertypes heads t) h.each i) types)
    ∙ same_test (λ u. list_any (is_other_of u) (supertypes heads t)) types (supertypes heads t) h.each
