-- Classes outwards, one by one.
use Rattle.std.proofs.Common.{◌≡◌, ℕ, ◌<◌, ◌≤◌, List, [], ◌∷◌, ◌++◌, length, Option, Some, None, append_assoc, refl, sym, ap, ◌∙◌, subst}
use Rattle.std.specs.Prelude.{Bool, true, false, if◌then◌else◌}
use Rattle.std.specs.Option.{ForSome}
use Rattle.std.proofs.lemmas.Option.{slice_get_past}
use Rattle.je_classes.proofs.Lists.{bool_cases}
use Rattle.je_scopes.specs.Headers.{is_local_sort, or_nothing, site_at}
use Rattle.je_scopes.proofs.Either.{by_either, within_or_past}
use Rattle.je_scopes.specs.Sites.{Site}
use Rattle.name_typing.specs.Program.{Frame}
use Rattle.name_walk.specs.View.{context_view, round_from}
use Rattle.class_typing.specs.Places.{bodies_round, in_body, innermost_in_body, is_in_body, round_class, round_without_locals}
use Rattle.class_places.specs.declared.rounds.Round.{Round}
use Rattle.class_places.specs.way.Rounds.{class_in, in_body_from, round_behind, without_behind}

module _ (sites : List Site) where
  -- ---- the innermost that is in a body

  innermost-here : (c : ℕ) (ds : List ℕ) → is_in_body sites c ≡ true → innermost_in_body sites c ds ≡ Some c
  innermost-here c [] e = rw e refl
  innermost-here c (d ∷ ds) e = rw e refl

  pub stands_here : (c : ℕ) → is_local_sort (site_at sites c).sort ≡ true → in_body sites c ≡ Some c
  unfolding in_body
  stands_here c e = innermost-here c (site_at sites c).spot.round e

  pub stands_further : (c : ℕ) (o : Option ℕ) → is_local_sort (site_at sites c).sort ≡ false → (site_at sites c).spot.round ≡ round_from sites o →
      in_body sites c ≡ in_body_from sites o
  unfolding in_body
  stands_further c None e h = rw h (rw e refl)
  stands_further c (Some d) e h = rw h (rw e refl)

  -- ---- bodies where none is told

  pub goes_on : (c : ℕ) (o : Option Round) → (site_at sites c).spot.round ≡ round_from sites (class_in o) →
      ForSome o (λ r. context_view r.context ≡ (site_at sites c).spot.context) → round_without_locals sites c ≡ without_behind sites o
  unfolding round_without_locals
  goes_on c None h k = rw h refl
  goes_on c (Some r) h k = rw h (rw k refl)

  -- ---- bodies where those of the class that stands in a body are told

  pub stops : (given : List Frame) (c : ℕ) → is_local_sort (site_at sites c).sort ≡ true → round_class sites given c ≡ given
  unfolding round_class
  stops given c e = here (site_at sites c).spot.round
    where
      here : (ds : List ℕ) → bodies_round sites given c ds ≡ given
      here [] = refl
      here (d ∷ ds) = rw e refl

  pub further : (given : List Frame) (c : ℕ) (o : Option Round) → is_local_sort (site_at sites c).sort ≡ false →
      (site_at sites c).spot.round ≡ round_from sites (class_in o) → ForSome o (λ r. context_view r.context ≡ (site_at sites c).spot.context) →
      round_class sites given c ≡ round_behind sites given o
  unfolding round_class
  further given c None e h k = rw h refl
  further given c (Some r) e h k = rw h (rw (e, k) refl)

  -- ---- a class that stands in a body is one that there is

  innermost-is : (c : ℕ) (ds : List ℕ) (d : ℕ) → innermost_in_body sites c ds ≡ Some d → is_in_body sites d ≡ true
  innermost-is c [] d e = bool_cases (λ b. is_in_body sites c ≡ b → (if b then Some c else None) ≡ Some d → is_in_body sites d ≡ true) (is_in_body sites c)
      (λ _ h k. let same : c ≡ d = cc in subst (λ (n : ℕ). is_in_body sites n ≡ true) same h) (λ _ h k. absurd cc) refl e
  innermost-is c (f ∷ ds) d e = bool_cases (λ b. is_in_body sites c ≡ b → (if b then Some c else innermost_in_body sites f ds) ≡ Some d → is_in_body sites d ≡ true) (is_in_body sites c)
      (λ _ h k. let same : c ≡ d = cc in subst (λ (n : ℕ). is_in_body sites n ≡ true) same h) (λ _ h k. innermost-is f ds d k) refl e

  past-is-none : (d : ℕ) → length sites ≤ d → is_in_body sites d ≡ false
  past-is-none d l = ap (λ (o : Option Site). is_local_sort (or_nothing o).sort) (slice_get_past sites d l)

  true-false : {b : Bool} → b ≡ true → b ≡ false → ⊥
  true-false e f = cc

  pub stands_within : (c d : ℕ) → Some d ≡ in_body sites c → d < length sites
  unfolding in_body
  stands_within c d e =
      by_either (λ l. l) (λ l. absurd (true-false (innermost-is c (site_at sites c).spot.round d (sym e)) (past-is-none d l))) (within_or_past d (length sites))

-- one body more
pub one_body : (xs ys : List Frame) (b : Frame) (zs rest all : List Frame) → ys ≡ xs ++ b ∷ [] → rest ≡ b ∷ zs → xs ++ rest ≡ all → ys ++ zs ≡ all
one_body xs ys b zs rest all e h k = rw e (append_assoc xs (b ∷ []) zs ∙ ap (λ (fs : List Frame). xs ++ fs) (sym h) ∙ k)
