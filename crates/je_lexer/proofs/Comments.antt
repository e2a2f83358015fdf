-- Where comments end.
use Rattle.std.proofs.Common.{◌≡◌, ℕ, zero, suc, ◌+◌, ◌<◌, Bool, true, false, ◌&&◌, ◌==◌, List, [], ◌∷◌, ◌++◌, length, take, drop, if◌then◌else◌, refl, sym, arith, true≢false}
use Rattle.std.proofs.lemmas.Bool.{and_parts, eqb-true}
use Rattle.je_decode.specs.declared.character.Character.{Character}
use Rattle.je_lexer.specs.Classes.{begins_with, tail}
use Rattle.je_lexer.specs.Elements.{IsClosed}
use Rattle.je_lexer.specs.way.Runs.{comment_run}

begins_taken : (code k : ℕ) (cs : List Character) → begins_with code (take (suc k) cs) ≡ begins_with code cs
begins_taken code k [] = refl
begins_taken code k (c ∷ cs) = refl

pub closed : (cs : List Character) → begins_with 42 (drop (comment_run cs) cs) ≡ true → begins_with 47 (tail (drop (comment_run cs) cs)) ≡ true →
    IsClosed (take (comment_run cs + 2) cs)
closed [] star slash = absurd (true≢false (sym star))
closed (c ∷ cs) star slash = by ((c.code == 42) && begins_with 47 cs) refl star slash (closed cs)
  where
    here : (cs : List Character) → (c.code == 42) ≡ true → begins_with 47 cs ≡ true → IsClosed (take 2 (c ∷ cs))
    here [] first second = absurd (true≢false (sym second))
    here (d ∷ ds) first second = IsClosed.here (eqb-true c.code 42 first) (eqb-true d.code 47 second)

    by : (b : Bool) → ((c.code == 42) && begins_with 47 cs) ≡ b → begins_with 42 (drop (if b then 0 else suc (comment_run cs)) (c ∷ cs)) ≡ true →
        begins_with 47 (tail (drop (if b then 0 else suc (comment_run cs)) (c ∷ cs))) ≡ true →
        (begins_with 42 (drop (comment_run cs) cs) ≡ true → begins_with 47 (tail (drop (comment_run cs) cs)) ≡ true → IsClosed (take (comment_run cs + 2) cs)) →
        IsClosed (take ((if b then 0 else suc (comment_run cs)) + 2) (c ∷ cs))
    by true e star slash rest = let h = and_parts (c.code == 42) _ e in here cs h.0 h.1
    by false e star slash rest =
        let size : suc (comment_run cs) + 2 ≡ suc (comment_run cs + 2) = omega arith in
        let more : comment_run cs + 2 ≡ suc (comment_run cs + 1) = omega arith in
        let same : begins_with 47 (take (comment_run cs + 2) cs) ≡ begins_with 47 cs = rw more (begins_taken 47 (comment_run cs + 1) cs) in
        let whole : IsClosed (c ∷ take (comment_run cs + 2) cs) = IsClosed.later (rw same e) (rest star slash) in
        rw size whole

closed_begins : (code : ℕ) (cs rest : List Character) → IsClosed cs → begins_with code (cs ++ rest) ≡ begins_with code cs
closed_begins code _ rest (IsClosed.here e f) = refl
closed_begins code _ rest (IsClosed.later apart more) = refl

pub closed_run : (cs rest : List Character) → IsClosed cs → comment_run (cs ++ rest) + 2 ≡ length cs
closed_run _ rest (IsClosed.here {star = star} {slash = slash} e f) = rw (e, f) refl
closed_run _ rest (IsClosed.later {c = c} {cs = cs} apart more) =
    let tail_run = closed_run cs rest more in
    let one : comment_run (c ∷ cs ++ rest) ≡ suc (comment_run (cs ++ rest)) = let same = closed_begins 47 cs rest more in rw (same, apart) refl in
    omega arith

-- a closed comment's `*/` stands behind its run
pub closed_last : (cs rest : List Character) → IsClosed cs →
    (begins_with 42 (drop (comment_run (cs ++ rest)) (cs ++ rest)) && begins_with 47 (tail (drop (comment_run (cs ++ rest)) (cs ++ rest)))) ≡ true
closed_last _ rest (IsClosed.here {star = star} {slash = slash} e f) = rw (e, f) refl
closed_last _ rest (IsClosed.later {c = c} {cs = cs} apart more) =
    let one : comment_run (c ∷ cs ++ rest) ≡ suc (comment_run (cs ++ rest)) = let same = closed_begins 47 cs rest more in rw (same, apart) refl in
    rw one (closed_last cs rest more)

-- a `/` behind so many characters and one more stands inside the text
pub slash_within : (n : ℕ) (cs : List Character) → begins_with 47 (tail (drop n cs)) ≡ true → suc n < length cs
slash_within zero [] e = absurd (true≢false (sym e))
slash_within zero (c ∷ []) e = absurd (true≢false (sym e))
slash_within zero (c ∷ d ∷ ds) e = omega arith
slash_within (suc n) [] e = absurd (true≢false (sym e))
slash_within (suc n) (c ∷ cs) e = let rest = slash_within n cs e in omega arith
