-- What a test finds among the types above a type, in whatever order and number they are listed.
use Rattle.std.proofs.Common.{◌≡◌, ℕ, List, [], ◌∷◌, Bool, true, false, ◌&&◌, ◌||◌, refl, sym, ap, ◌∙◌}
use Rattle.std.specs.Prelude.{not}
use Rattle.std.specs.List.{list_any, list_all}
use Rattle.je_classes.proofs.Lists.{bool_cases}
use Rattle.je_scopes.specs.SourceTypes.{SourceType, same_source_type}
use Rattle.source_types.specs.Heads.{ClassHead}
use Rattle.source_types.specs.Supertypes.{has_type, supertypes}
use Rattle.source_types.proofs.Same.{same-refl, same-equal}
use Rattle.source_types.specs.Subtypes.{is_object}
use Rattle.je_typing.specs.Castable.{are_consistent, are_distinct, are_related, is_of_class, may_be_class, may_meet}
use Rattle.source_subtypes.specs.Above.{HasTypesAbove}
use Rattle.reference_tests.specs.way.Shapes.{all_consistent, may_share}

-- one of these types passes a test
data Passes (f : SourceType → Bool) (xs : List SourceType) : Type 0 where
  one : (u : SourceType) → has_type xs u ≡ true → f u ≡ true → Passes f xs

or-first : (a b : Bool) → a ≡ true → (a || b) ≡ true
or-first true b e = refl
or-first false b e = absurd cc

or-second : (a b : Bool) → b ≡ true → (a || b) ≡ true
or-second true b e = refl
or-second false b e = e

behind : (f : SourceType → Bool) (x : SourceType) (xs : List SourceType) → Passes f xs → Passes f (x ∷ xs)
behind f x xs (one u h k) = one u (or-second (same_source_type x u) (has_type xs u) h) k

passing : (f : SourceType → Bool) (xs : List SourceType) → list_any f xs ≡ true → Passes f xs
passing f [] e = absurd cc
passing f (x ∷ xs) e = bool_cases (λ b. (b || list_any f xs) ≡ true → Passes f (x ∷ xs)) (f x)
    (λ h k. one x (or-first (same_source_type x x) (has_type xs x) (same-refl x)) h)
    (λ h k. behind f x xs (passing f xs k)) e

found : (f : SourceType → Bool) (xs : List SourceType) (u : SourceType) → has_type xs u ≡ true → f u ≡ true → list_any f xs ≡ true
found f [] u h k = absurd cc
found f (x ∷ xs) u h k = bool_cases (λ b. (b || has_type xs u) ≡ true → list_any f (x ∷ xs) ≡ true) (same_source_type x u)
    (λ e g. or-first (f x) (list_any f xs) (ap f (same-equal x u e) ∙ k))
    (λ e g. or-second (f x) (list_any f xs) (found f xs u g k)) h

moved : (f : SourceType → Bool) (xs ys : List SourceType) → ((u : SourceType) → has_type xs u ≡ has_type ys u) → Passes f xs → list_any f ys ≡ true
moved f xs ys same (one u h k) = found f ys u (sym (same u) ∙ h) k

equal-tests : (a b : Bool) → (a ≡ true → b ≡ true) → (b ≡ true → a ≡ true) → a ≡ b
equal-tests true b h k = sym (h refl)
equal-tests false true h k = k refl
equal-tests false false h k = refl

any-same : (f : SourceType → Bool) (xs ys : List SourceType) → ((u : SourceType) → has_type xs u ≡ has_type ys u) → list_any f xs ≡ list_any f ys
any-same f xs ys same = equal-tests (list_any f xs) (list_any f ys)
    (λ e. moved f xs ys same (passing f xs e)) (λ e. moved f ys xs (λ u. sym (same u)) (passing f ys e))

and-not : (a b : Bool) → (a && not b) ≡ not (not a || b)
and-not true b = refl
and-not false b = refl

all-any : (f : SourceType → Bool) (xs : List SourceType) → list_all f xs ≡ not (list_any (λ u. not (f u)) xs)
all-any f [] = refl
all-any f (x ∷ xs) = ap (λ (b : Bool). f x && b) (all-any f xs) ∙ and-not (f x) (list_any (λ u. not (f u)) xs)

all-same : (f : SourceType → Bool) (xs ys : List SourceType) → ((u : SourceType) → has_type xs u ≡ has_type ys u) → list_all f xs ≡ list_all f ys
all-same f xs ys same = all-any f xs ∙ ap not (any-same (λ u. not (f u)) xs ys same) ∙ sym (all-any f ys)

module _ (heads : List ClassHead) where
  any-above : (t : SourceType) (types : List SourceType) (f : SourceType → Bool) → HasTypesAbove heads t types → list_any f types ≡ list_any f (supertypes heads t)
  any-above t types f h = any-same f types (supertypes heads t) h.each

  all-above : (t : SourceType) (types : List SourceType) (f : SourceType → Bool) → HasTypesAbove heads t types → list_all f types ≡ list_all f (supertypes heads t)
  all-above t types f h = all-same f types (supertypes heads t) h.each

  consistent-above : (s t : SourceType) (ss ts : List SourceType) → HasTypesAbove heads s ss → HasTypesAbove heads t ts → all_consistent ss ts ≡ are_consistent heads s t
  consistent-above s t ss ts h k =
      (λ i. list_all (λ u. all-above t ts (λ v. not (are_distinct u v)) k i) ss)
      ∙ all-above s ss (λ u. list_all (λ v. not (are_distinct u v)) (supertypes heads t)) h

  share-above : (c : ℕ) (s : SourceType) (ss : List SourceType) (d : ℕ) (t : SourceType) (ts : List SourceType) → HasTypesAbove heads s ss → HasTypesAbove heads t ts →
      may_share heads c s ss d t ts ≡ (is_object s || is_object t || are_related heads c s d t || may_meet heads c d)
  share-above c s ss d t ts h k =
      λ i. is_object s || is_object t || (any-above s ss (is_of_class d) h i || any-above t ts (is_of_class c) k i) || may_meet heads c d

  classes-above : (c : ℕ) (s : SourceType) (ss : List SourceType) (d : ℕ) (t : SourceType) (ts : List SourceType) → HasTypesAbove heads s ss → HasTypesAbove heads t ts →
      (may_share heads c s ss d t ts && all_consistent ss ts) ≡ may_be_class heads c s d t
  classes-above c s ss d t ts h k = λ i. share-above c s ss d t ts h k i && consistent-above s t ss ts h k i

pub none_shared : (heads : List ClassHead) (c : ℕ) (s : SourceType) (ss : List SourceType) (d : ℕ) (t : SourceType) (ts : List SourceType) → HasTypesAbove heads s ss → HasTypesAbove heads t ts →
    may_share heads c s ss d t ts ≡ false → false ≡ may_be_class heads c s d t
none_shared heads c s ss d t ts h k e = ap (λ (b : Bool). b && all_consistent ss ts) (sym e) ∙ classes-above heads c s ss d t ts h k

pub some_shared : (heads : List ClassHead) (c : ℕ) (s : SourceType) (ss : List SourceType) (d : ℕ) (t : SourceType) (ts : List SourceType) → HasTypesAbove heads s ss → HasTypesAbove heads t ts →
    may_share heads c s ss d t ts ≡ true → all_consistent ss ts ≡ may_be_class heads c s d t
some_shared heads c s ss d t ts h k e = ap (λ (b : Bool). b && all_consistent ss ts) (sym e) ∙ classes-above heads c s ss d t ts h k

pub ruleset sets = (none_shared, some_shared)
