-- A text, its fronts, and what stands behind them.
use Rattle.std.proofs.Common.{◌≡◌, ℕ, zero, suc, ◌≤◌, List, [], ◌∷◌, ◌++◌, length, take, drop, refl, sym, ap, ◌∙◌, arith}
use Rattle.je_decode.specs.declared.character.Character.{Character}

pub taken : (front behind : List Character) → take (length front) (front ++ behind) ≡ front
taken [] behind = refl
taken (c ∷ cs) behind = ap (λ ds. c ∷ ds) (taken cs behind)

pub dropped : (front behind : List Character) → drop (length front) (front ++ behind) ≡ behind
dropped [] behind = refl
dropped (c ∷ cs) behind = dropped cs behind

pub split : (n : ℕ) (text : List Character) → text ≡ take n text ++ drop n text
split zero text = refl
split (suc n) [] = refl
split (suc n) (c ∷ cs) = ap (λ ds. c ∷ ds) (split n cs)

-- the front of a length
pub front_is : (text front behind : List Character) → text ≡ front ++ behind → front ≡ take (length front) text
front_is text front behind e = sym (ap (take (length front)) e ∙ taken front behind)

pub behind_is : (text front behind : List Character) → text ≡ front ++ behind → behind ≡ drop (length front) text
behind_is text front behind e = sym (ap (drop (length front)) e ∙ dropped front behind)

pub same_front : (text front behind front1 behind1 : List Character) → text ≡ front ++ behind → text ≡ front1 ++ behind1 → length front ≡ length front1 →
    (front ≡ front1) × (behind ≡ behind1)
same_front text front behind front1 behind1 e f size = (
  front_is text front behind e ∙ ap (λ n. take n text) size ∙ sym (front_is text front1 behind1 f),
  behind_is text front behind e ∙ ap (λ n. drop n text) size ∙ sym (behind_is text front1 behind1 f),
)

pub front_fits : (text front behind : List Character) → text ≡ front ++ behind → length front ≤ length text
front_fits text front behind e = rw e (fits front)
  where
    fits : (front : List Character) → length front ≤ length (front ++ behind)
    fits [] = omega arith
    fits (c ∷ cs) = let more = fits cs in omega arith
