-- What a choice is, by the set of its candidates (JLS 15.12.2).
use Rattle.std.specs.Prelude.{◌≡◌, ℕ, true, false, ◌⊎◌, List}
use Rattle.je_classes.specs.Members.{In}
use Rattle.je_scopes.specs.Sites.{Site}
use Rattle.je_scopes.specs.SourceTypes.{SourceType}
use Rattle.source_types.specs.Heads.{ClassHead}
use Rattle.call_typing.specs.Overloads.{Candidate, Choice, accepts, choice, has_body, is_accessible, is_more_specific, none_accepts, none_accessible, one, unclear}

-- a candidate that accepts the arguments
abbrev pub Accepting : List ClassHead → List Candidate → List SourceType → Candidate → Type 0
Accepting heads ms types m = In ms m × (accepts heads types m ≡ true)

-- one that also may be named in a class
abbrev pub Applicable : List ClassHead → List Site → ℕ → List Candidate → List SourceType → Candidate → Type 0
Applicable heads sites c ms types m = Accepting heads ms types m × (is_accessible sites c m ≡ true)

-- a member of a set that is more specific than each member
pub record IsBest (heads : List ClassHead) (P : Candidate → Type 0) (m : Candidate) : Type 0 where
  pub member : P m
  pub specific : (n : Candidate) → P n → is_more_specific heads m n ≡ true

-- What the choice of a call is, where `A` are the candidates that accept the arguments, and `P` those of them that may
-- be named. What is chosen is one of the best of these, one with a body unless none of them has one.
pub data IsChoice (heads : List ClassHead) (A P : Candidate → Type 0) : Choice → Type 0 where
  none_accept : ((m : Candidate) → ¬ A m) → IsChoice heads A P none_accepts
  none_named : {m : Candidate} → A m → ((n : Candidate) → ¬ P n) → IsChoice heads A P none_accessible
  not_one : {m : Candidate} → P m → IsChoice heads A P unclear
  the_one : {m : Candidate} → IsBest heads P m →
      (has_body m ≡ true) ⊎ ((n : Candidate) → IsBest heads P n → has_body n ≡ false) → IsChoice heads A P (one m)

abbrev pub ChoicesAreRight : Type 0
ChoicesAreRight = (heads : List ClassHead) (sites : List Site) (c : ℕ) (ms : List Candidate) (types : List SourceType) →
    IsChoice heads (Accepting heads ms types) (Applicable heads sites c ms types) (choice heads sites c ms types)
