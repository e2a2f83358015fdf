-- Where character and string literals end.
use Rattle.std.proofs.Common.{◌≡◌, ℕ, suc, ◌+◌, Bool, true, false, not, ◌&&◌, ◌||◌, ◌==◌, List, [], ◌∷◌, ◌++◌, length, take, drop, if◌then◌else◌, refl, sym, ◌∙◌, arith, ⊎_elim, true≢false}
use Rattle.std.proofs.lemmas.Bool.{and_parts, or_cases, eqb-true, eq-eqb}
use Rattle.je_decode.specs.declared.character.Character.{Character}
use Rattle.je_lexer.specs.Classes.{ends_line, begins_with, is_quote}
use Rattle.je_lexer.specs.Elements.{IsQuoted}
use Rattle.je_lexer.specs.Spans.{start_of, line_end}
use Rattle.je_lexer.specs.way.Runs.{literal_run}
use Rattle.je_lexer.proofs.Fronts.{same_front}

-- what a literal's characters are, also behind a backslash
abbrev Quoted : ℕ → Bool → List Character → Type 0
Quoted quote false cs = IsQuoted quote cs
Quoted quote true [] = ⊥
Quoted quote true (c ∷ cs) = (ends_line c.code ≡ false) × IsQuoted quote cs

abbrev Closes : ℕ → Bool → List Character → Type 0
Closes quote escaped cs = begins_with quote (drop (literal_run quote escaped cs) cs) ≡ true → Quoted quote escaped (take (literal_run quote escaped cs + 1) cs)

module _ (quote : ℕ) (in_line : ends_line quote ≡ false) where
  line_is_open : (c : Character) → ends_line c.code ≡ true → (c.code == quote) ≡ true → ⊥
  line_is_open c line same = true≢false (sym line ∙ rw (eqb-true c.code quote same) in_line)

  -- a character that is in the line
  goes : (escaped : Bool) (c : Character) (cs : List Character) → (not escaped && (c.code == quote)) ≡ false → ends_line c.code ≡ false →
      Closes quote (not escaped && (c.code == 92)) cs → begins_with quote (drop (literal_run quote (not escaped && (c.code == 92)) cs) cs) ≡ true →
      Quoted quote escaped (c ∷ take (literal_run quote (not escaped && (c.code == 92)) cs + 1) cs)
  goes true c cs other line rest e = (line, rest e)
  goes false c cs other line rest e = by (c.code == 92) refl rest e
    where
      behind : (text : List Character) → (c.code == 92) ≡ true → Quoted quote true text → IsQuoted quote (c ∷ text)
      behind [] e h = absurd h
      behind (d ∷ ds) e h = IsQuoted.escaped (eqb-true c.code 92 e) h.0 h.1

      by : (b : Bool) → (c.code == 92) ≡ b → Closes quote b cs → begins_with quote (drop (literal_run quote b cs) cs) ≡ true →
          IsQuoted quote (c ∷ take (literal_run quote b cs + 1) cs)
      by true is rest e = behind (take (literal_run quote true cs + 1) cs) is (rest e)
      by false is rest e = IsQuoted.plain line other is (rest e)

  ends : (escaped : Bool) (c : Character) → (not escaped && (c.code == quote)) ≡ true → Quoted quote escaped (c ∷ [])
  ends true c e = absurd (true≢false (sym e))
  ends false c e = IsQuoted.here (eqb-true c.code quote e)

  closes : (escaped : Bool) (cs : List Character) → Closes quote escaped cs
  closes escaped [] e = absurd (true≢false (sym e))
  closes escaped (c ∷ cs) e = by (ends_line c.code) refl (not escaped && (c.code == quote)) refl e (closes (not escaped && (c.code == 92)) cs)
    where
      by : (line : Bool) → ends_line c.code ≡ line → (last : Bool) → (not escaped && (c.code == quote)) ≡ last →
          begins_with quote (drop (if line || last then 0 else suc (literal_run quote (not escaped && (c.code == 92)) cs)) (c ∷ cs)) ≡ true →
          Closes quote (not escaped && (c.code == 92)) cs →
          Quoted quote escaped (take ((if line || last then 0 else suc (literal_run quote (not escaped && (c.code == 92)) cs)) + 1) (c ∷ cs))
      by true is last same e rest = absurd (line_is_open c is e)
      by false is true same e rest = ends escaped c same
      by false is false same e rest =
          let size : suc (literal_run quote (not escaped && (c.code == 92)) cs) + 1 ≡ suc (literal_run quote (not escaped && (c.code == 92)) cs + 1) = omega arith in
          rw size (goes escaped c cs same is rest e)

quote_in_line : (code : ℕ) → is_quote code ≡ true → ends_line code ≡ false
quote_in_line code e = ⊎_elim (λ e. rw (eqb-true code 34 e) refl) (λ e. rw (eqb-true code 39 e) refl) (or_cases (code == 34) (code == 39) e)

quote_apart : (code : ℕ) → is_quote code ≡ true → (92 == code) ≡ false
quote_apart code e = ⊎_elim (λ e. rw (eqb-true code 34 e) refl) (λ e. rw (eqb-true code 39 e) refl) (or_cases (code == 34) (code == 39) e)

-- a literal that a quote closes is closed
pub quoted : (c : Character) (cs : List Character) → is_quote c.code ≡ true → begins_with c.code (drop (literal_run c.code false cs) cs) ≡ true →
    IsQuoted c.code (take (literal_run c.code false cs + 1) cs)
quoted c cs quote e = closes c.code (quote_in_line c.code quote) false cs e

-- the run of a closed literal, and the quote behind it
record Runs (quote : ℕ) (cs rest : List Character) : Type 0 where
  size : literal_run quote false (cs ++ rest) + 1 ≡ length cs
  last : begins_with quote (drop (literal_run quote false (cs ++ rest)) (cs ++ rest)) ≡ true

runs : (quote : ℕ) → (92 == quote) ≡ false → (cs rest : List Character) → IsQuoted quote cs → Runs quote cs rest
runs quote apart _ rest (IsQuoted.here {c = c} e) =
    let same = eq-eqb c.code quote e in let h = by (ends_line c.code) (c.code == quote) same same in record { size = h.0; last = h.1 }
  where
    by : (line last : Bool) → (c.code == quote) ≡ true → last ≡ true →
        ((if line || (not false && last) then 0 else suc (literal_run quote (not false && (c.code == 92)) rest)) + 1 ≡ 1) ×
        (begins_with quote (drop (if line || (not false && last) then 0 else suc (literal_run quote (not false && (c.code == 92)) rest)) (c ∷ rest)) ≡ true)
    by true last same e = (refl, same)
    by false true same e = (refl, same)
    by false false same e = absurd (true≢false (sym e))
runs quote apart _ rest (IsQuoted.plain {c = c} {cs = cs} line other free more) =
    let h = runs quote apart cs rest more in
    let one : literal_run quote false (c ∷ cs ++ rest) ≡ suc (literal_run quote false (cs ++ rest)) = rw (line, other, free) refl in
    let size = h.size in
    record { size = omega arith; last = rw one h.last }
runs quote apart _ rest (IsQuoted.escaped {backslash = b} {c = c} {cs = cs} e line more) =
    let h = runs quote apart cs rest more in
    let two : literal_run quote false (b ∷ c ∷ cs ++ rest) ≡ suc (suc (literal_run quote false (cs ++ rest))) = rw (e, apart, line) refl in
    let size = h.size in
    record { size = omega arith; last = rw two h.last }

pub quoted_run : (quote : ℕ) → is_quote quote ≡ true → (cs rest : List Character) → IsQuoted quote cs → literal_run quote false (cs ++ rest) + 1 ≡ length cs
quoted_run quote is cs rest h = (runs quote (quote_apart quote is) cs rest h).size

pub quoted_last : (quote : ℕ) → is_quote quote ≡ true → (cs rest : List Character) → IsQuoted quote cs →
    begins_with quote (drop (literal_run quote false (cs ++ rest)) (cs ++ rest)) ≡ true
quoted_last quote is cs rest h = (runs quote (quote_apart quote is) cs rest h).last

-- two closed literals at one place are one
pub one_literal : (quote : ℕ) → is_quote quote ≡ true → (text inside behind inside1 behind1 : List Character) → text ≡ inside ++ behind → text ≡ inside1 ++ behind1 →
    IsQuoted quote inside → IsQuoted quote inside1 → inside ≡ inside1
one_literal quote is text inside behind inside1 behind1 e f h k =
    let first : literal_run quote false text + 1 ≡ length inside = rw e (quoted_run quote is inside behind h) in
    let second : literal_run quote false text + 1 ≡ length inside1 = rw f (quoted_run quote is inside1 behind1 k) in
    (same_front text inside behind inside1 behind1 e f (omega arith)).0

-- a literal that no quote closes goes on to its line's end
pub open_line : (file_end quote : ℕ) (escaped : Bool) (cs : List Character) → begins_with quote (drop (literal_run quote escaped cs) cs) ≡ false →
    start_of file_end (drop (literal_run quote escaped cs) cs) ≡ line_end file_end cs
open_line file_end quote escaped [] e = refl
open_line file_end quote escaped (c ∷ cs) e =
    by (ends_line c.code) (not escaped && (c.code == quote)) refl e (open_line file_end quote (not escaped && (c.code == 92)) cs)
  where
    by : (line last : Bool) → (not escaped && (c.code == quote)) ≡ last →
        begins_with quote (drop (if line || last then 0 else suc (literal_run quote (not escaped && (c.code == 92)) cs)) (c ∷ cs)) ≡ false →
        (begins_with quote (drop (literal_run quote (not escaped && (c.code == 92)) cs) cs) ≡ false →
        start_of file_end (drop (literal_run quote (not escaped && (c.code == 92)) cs) cs) ≡ line_end file_end cs) →
        start_of file_end (drop (if line || last then 0 else suc (literal_run quote (not escaped && (c.code == 92)) cs)) (c ∷ cs)) ≡
        (if line then c.start else line_end file_end cs)
    by true last is e rest = refl
    by false true is e rest = absurd (true≢false (sym (and_parts (not escaped) (c.code == quote) is).1 ∙ e))
    by false false is e rest = rest e
