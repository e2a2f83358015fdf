-- A literal is read from left to right.
use Rattle.std.proofs.Common.{◌≡◌, ℕ, List, [], ◌∷◌, ◌++◌, Some, None, append_assoc, append-nil, subst, length, arith}
use Rattle.je_decode.specs.declared.character.Character.{Character}
use Rattle.je_lexer.specs.Texts.{TextPiece, text_piece, Means, HasBadBackslash}

-- what the rest comes to, the whole comes to
pub record IsUnderway (body rest : List Character) (units : List ℕ) : Type 0 where
  pub gives : (more : List ℕ) → Means rest more → Means body (units ++ more)
  pub fails : (bad : Character) → HasBadBackslash rest bad → HasBadBackslash body bad

pub underway_more : (body rest cs : List Character) (units : List ℕ) (c : Character) (p : TextPiece) → IsUnderway body rest units → rest ≡ c ∷ cs → text_piece c cs ≡ Some p →
    IsUnderway body p.rest (units ++ p.units)
underway_more body rest cs units c p under e is = record {
  gives = λ more h. rw (append_assoc units p.units more) (under.gives (p.units ++ more) (rw e (Means.more is h)));
  fails = λ bad h. under.fails bad (rw e (HasBadBackslash.later is h));
}

pub underway_done : (body rest : List Character) (units : List ℕ) → IsUnderway body rest units → length rest ≡ 0 → Means body units
underway_done body [] units under e = subst (Means body) (append-nil units) (under.gives [] Means.done)
underway_done body (c ∷ cs) units under e = absurd (omega arith)

pub underway_fails : (body rest cs : List Character) (units : List ℕ) (c : Character) → IsUnderway body rest units → rest ≡ c ∷ cs → text_piece c cs ≡ None → HasBadBackslash body c
underway_fails body rest cs units c under e is = under.fails c (rw e (HasBadBackslash.here is))
