-- Translation from left to right.
use Rattle.std.proofs.Common.{◌≡◌, Bool, false, List, [], ◌∷◌, ◌++◌, Some, None, append_assoc, append-nil, subst, length, length-append, ap, ◌+◌, ◌≤◌, arith}
use Rattle.je_decode.specs.Escapes.{Piece, piece, turns, Translates, Malformed}
use Rattle.je_decode.specs.declared.character.Character.{Character}

-- what the rest comes to, the whole comes to
pub record IsUnderway (raw : List Character) (odd : Bool) (rest all : List Character) : Type 0 where
  pub gives : (ds : List Character) → Translates odd rest ds → Translates false raw (all ++ ds)
  pub fails : (bad : Character) → Malformed odd rest bad → Malformed false raw bad
  pub few : length all + length rest ≤ length raw

pub underway_more : (raw rest cs all : List Character) (odd : Bool) (c : Character) (p : Piece) → IsUnderway raw odd rest all → rest ≡ c ∷ cs → piece odd c cs ≡ Some p → length p.rest ≤ length cs →
    IsUnderway raw (turns odd c cs) p.rest (all ++ p.character ∷ [])
underway_more raw rest cs all odd c p under e is less = record {
  gives = λ ds h. rw (append_assoc all (p.character ∷ []) ds) (under.gives (p.character ∷ ds) (rw e (Translates.more is h)));
  fails = λ bad h. under.fails bad (rw e (Malformed.later is h));
  few = let sizes = under.few in let sum = length-append all (p.character ∷ []) in let whole = ap length e in omega arith;
}

pub underway_done : (raw rest all : List Character) (odd : Bool) → IsUnderway raw odd rest all → length rest ≡ 0 → Translates false raw all
underway_done raw [] all odd under e = subst (Translates false raw) (append-nil all) (under.gives [] Translates.done)
underway_done raw (c ∷ cs) all odd under e = absurd (omega arith)

pub underway_fails : (raw rest cs all : List Character) (odd : Bool) (c : Character) → IsUnderway raw odd rest all → rest ≡ c ∷ cs → piece odd c cs ≡ None → Malformed false raw c
underway_fails raw rest cs all odd c under e is = under.fails c (rw e (Malformed.here is))
