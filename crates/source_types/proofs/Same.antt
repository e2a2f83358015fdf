-- The test for equal types.
use Rattle.std.proofs.Common.{◌≡◌, ℕ, refl, ap, ◌∙◌, arith}
use Rattle.std.specs.Prelude.{Bool, true, false, ◌&&◌, nat_eq}
use Rattle.std.proofs.lemmas.Bool.Decides.{nat_tests}
use Rattle.je_core.specs.declared.types.Base.{Base}
use Rattle.je_classes.specs.Subtypes.{same_base}
use Rattle.je_classes.proofs.Same.{same_base-refl, same_base-equal}
use Rattle.je_scopes.specs.SourceTypes.{SourceType, SourceTypes, plain, of_class, of_variable, no_source_types, more_source_types, same_source_type, same_source_types}

number-refl : (n : ℕ) → nat_eq n n ≡ true
number-refl n = grind (arith, nat_tests)

number-equal : (m n : ℕ) → nat_eq m n ≡ true → m ≡ n
number-equal m n e = grind (arith, nat_tests)

pub and-true : (a b : Bool) → a ≡ true → b ≡ true → (a && b) ≡ true
and-true true b e f = f
and-true false b e f = e

pub and-left : (a b : Bool) → (a && b) ≡ true → a ≡ true
and-left true b e = refl
and-left false b e = e

pub and-right : (a b : Bool) → (a && b) ≡ true → b ≡ true
and-right true b e = e
and-right false b e = absurd cc

mutual
  pub same-refl : (t : SourceType) → same_source_type t t ≡ true
  same-refl (plain b n) = and-true (same_base b b) (nat_eq n n) (same_base-refl b) (number-refl n)
  same-refl (of_class c ts n) =
      and-true (nat_eq c c && nat_eq n n) (same_source_types ts ts) (and-true (nat_eq c c) (nat_eq n n) (number-refl c) (number-refl n)) (all-refl ts)
  same-refl (of_variable c at n) =
      and-true (nat_eq c c && nat_eq at at) (nat_eq n n) (and-true (nat_eq c c) (nat_eq at at) (number-refl c) (number-refl at)) (number-refl n)

  all-refl : (ts : SourceTypes) → same_source_types ts ts ≡ true
  all-refl no_source_types = refl
  all-refl (more_source_types t ts) = and-true (same_source_type t t) (same_source_types ts ts) (same-refl t) (all-refl ts)

mutual
  pub same-equal : (s t : SourceType) → same_source_type s t ≡ true → s ≡ t
  same-equal (plain a m) (plain b n) e =
      ap (λ (k : Base). plain k m) (same_base-equal a b (and-left (same_base a b) (nat_eq m n) e))
      ∙ ap (λ (k : ℕ). plain b k) (number-equal m n (and-right (same_base a b) (nat_eq m n) e))
  same-equal (of_class c ts m) (of_class d us n) e =
      let first : (nat_eq c d && nat_eq m n) ≡ true = and-left (nat_eq c d && nat_eq m n) (same_source_types ts us) e in
      ap (λ (k : ℕ). of_class k ts m) (number-equal c d (and-left (nat_eq c d) (nat_eq m n) first))
      ∙ ap (λ (vs : SourceTypes). of_class d vs m) (all-equal ts us (and-right (nat_eq c d && nat_eq m n) (same_source_types ts us) e))
      ∙ ap (λ (k : ℕ). of_class d us k) (number-equal m n (and-right (nat_eq c d) (nat_eq m n) first))
  same-equal (of_variable c i m) (of_variable d j n) e =
      let first : (nat_eq c d && nat_eq i j) ≡ true = and-left (nat_eq c d && nat_eq i j) (nat_eq m n) e in
      ap (λ (k : ℕ). of_variable k i m) (number-equal c d (and-left (nat_eq c d) (nat_eq i j) first))
      ∙ ap (λ (k : ℕ). of_variable d k m) (number-equal i j (and-right (nat_eq c d) (nat_eq i j) first))
      ∙ ap (λ (k : ℕ). of_variable d j k) (number-equal m n (and-right (nat_eq c d && nat_eq i j) (nat_eq m n) e))
  same-equal (plain a m) (of_class d us n) e = absurd cc
  same-equal (plain a m) (of_variable d j n) e = absurd cc
  same-equal (of_class c ts m) (plain b n) e = absurd cc
  same-equal (of_class c ts m) (of_variable d j n) e = absurd cc
  same-equal (of_variable c i m) (plain b n) e = absurd cc
  same-equal (of_variable c i m) (of_class d us n) e = absurd cc

  all-equal : (ts us : SourceTypes) → same_source_types ts us ≡ true → ts ≡ us
  all-equal no_source_types no_source_types e = refl
  all-equal (more_source_types t ts) (more_source_types u us) e =
      ap (λ (k : SourceType). more_source_types k ts) (same-equal t u (and-left (same_source_type t u) (same_source_types ts us) e))
      ∙ ap (λ (ks : SourceTypes). more_source_types u ks) (all-equal ts us (and-right (same_source_type t u) (same_source_types ts us) e))
  all-equal no_source_types (more_source_types u us) e = absurd cc
  all-equal (more_source_types t ts) no_source_types e = absurd cc
