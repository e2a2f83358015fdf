-- What is cut at the front of a text is an element, a closed literal, or what stands where no element begins.
use Rattle.std.proofs.Common.{◌≡◌, ℕ, zero, suc, ◌+◌, ◌<◌, ◌≤◌, Bool, true, false, not, ◌&&◌, ◌||◌, ◌==◌, nat_lt, List, [], ◌∷◌, ◌++◌, length, take, drop, Option, Some, None, if◌then◌else◌, refl, sym, ap, ◌∙◌, subst, arith, true≢false}
use Rattle.std.proofs.lemmas.Bool.{and_parts, eqb-true, not-true, ltb-true, or_from}
use Rattle.std.proofs.lemmas.List.Elements.{All-cons}
use Rattle.je_decode.specs.declared.character.Character.{Character}
use Rattle.je_token.specs.Texts.{symbol_text}
use Rattle.je_token.specs.declared.symbol.Symbol.{Symbol}
use Rattle.je_lexer.specs.Classes.{is_space, ends_line, starts_name, continues_name, is_digit_below, is_quote, begins_with, begins_with_digit, begins_as_name_part, tail}
use Rattle.je_lexer.specs.Elements.{Element, IsQuoted, IsElement, opens_other}
use Rattle.je_lexer.specs.Faults.{IsLiteral, IsWrong, begins_number, begins_comment}
use Rattle.je_lexer.specs.Numbers.{number, limit, goes_on, is_floating}
use Rattle.je_lexer.specs.Spans.{start_of, end_of, number_end}
use Rattle.je_lexer.specs.declared.cutting.Cut.{Cut}
use Rattle.je_lexer.specs.declared.cutting.Cut.TheVariants as cut
use Rattle.je_lexer.specs.declared.fault.FaultKind.{FaultKind}
use Rattle.je_lexer.specs.declared.fault.FaultKind.TheVariants as kind
use Rattle.je_lexer.specs.declared.numbers.Number.{Number}
use Rattle.je_lexer.specs.way.Cutting.{cut_at, cut_len, number_cut, literal_cut, comment_cut, bad_number, if_number, if_symbol, IsOf}
use Rattle.je_lexer.specs.way.Numbers.{number_before, in_limit, is_long}
use Rattle.je_lexer.specs.way.Runs.{space_run, name_run, number_run, line_run, comment_run, literal_run}
use Rattle.je_lexer.specs.way.Symbols.{symbol_at}
use Rattle.je_lexer.proofs.Comments.{closed, slash_within}
use Rattle.je_lexer.proofs.ElementSymbols.{taken_text}
use Rattle.je_lexer.proofs.Literals.{quoted, quoted_last, open_line}
use Rattle.je_lexer.proofs.Longest.{longest_fits, run_cons, run_passes, run_fits, sign_fits}

pub data Stands (file_end : ℕ) (text : List Character) : Cut → Type 0 where
  element : {k : Cut} {n : ℕ} {e : Element} → cut_len k ≡ Some n → n ≤ length text → IsOf k (take n text) e → IsElement e (take n text) (drop n text) → Stands file_end text k
  literal : {n : ℕ} {quote : Character} {inside : List Character} → take n text ≡ quote ∷ inside → is_quote quote.code ≡ true → IsQuoted quote.code inside →
      Stands file_end text (cut.Literal n)
  fault : {k : FaultKind} {start end : ℕ} → IsWrong file_end text k start end → Stands file_end text (cut.Fault k start end)

either : (file_end : ℕ) (text : List Character) (b : Bool) (j k : Cut) → (b ≡ true → Stands file_end text j) → (b ≡ false → Stands file_end text k) →
    Stands file_end text (if b then j else k)
either file_end text true j k f g = f refl
either file_end text false j k f g = g refl

-- an element of so many characters
of_size : (e : Element) (text : List Character) (n m : ℕ) → n ≡ m → IsElement e (take m text) (drop m text) → IsElement e (take n text) (drop n text)
of_size e text n m same h = subst (λ k. IsElement e (take k text) (drop k text)) (sym same) h

-- ---- numbers

run_end : (end : ℕ) (cs : List Character) → end_of end (take (number_run cs) cs) ≡ number_end end cs
run_end end [] = refl
run_end end (c ∷ cs) = rw (run_cons (λ code. continues_name code || (code == 46)) c cs) (by (continues_name c.code || (c.code == 46)) (run_end c.end cs))
  where
    by : (b : Bool) → end_of c.end (take (number_run cs) cs) ≡ number_end c.end cs →
        end_of end (take (if b then suc (number_run cs) else 0) (c ∷ cs)) ≡ (if b then number_end c.end cs else end)
    by true rest = rest
    by false rest = refl

bad_number_front : (file_end : ℕ) (c : Character) (cs : List Character) → begins_number c cs ≡ true → Stands file_end (c ∷ cs) (bad_number c cs)
unfolding bad_number
bad_number_front file_end c cs begins =
    rw (run_end c.end cs) (Stands.fault (IsWrong.bad_number begins))

-- what a number that is cut is
pub record IsBefore (behind word : List Character) (i : Number) : Type 0 where
  pub is : number word ≡ Some i
  pub within : i.value < limit i
  pub whole : is_floating i word behind ≡ false

not_both : (a b : Bool) → (a || not b) ≡ true → (not a && b) ≡ false
not_both true b e = refl
not_both false true e = absurd (true≢false (sym e))
not_both false false e = refl

pub number_is : (behind word : List Character) (i : Number) → number_before behind word ≡ Some i → IsBefore behind word i
unfolding number_before
number_is behind word i e = by (number word) refl e
  where
    picked : (j : Number) → number word ≡ Some j → (b : Bool) → (nat_lt j.value (limit j) && (j.long || not (goes_on word behind))) ≡ b →
        (if b then Some j else None) ≡ Some i → IsBefore behind word i
    picked j is true e f =
        let h = and_parts (nat_lt j.value (limit j)) _ e in
        let same : j ≡ i = cc in
        let found : IsBefore behind word j = record { is = is; within = ltb-true j.value (limit j) h.0; whole = not_both j.long (goes_on word behind) h.1 } in
        subst (IsBefore behind word) same found
    picked j is false e f = absurd (cc)

    by : (o : Option Number) → number word ≡ o → (if in_limit o && (is_long o || not (goes_on word behind)) then o else None) ≡ Some i → IsBefore behind word i
    by None is f = absurd (cc)
    by (Some j) is f = picked j is (nat_lt j.value (limit j) && (j.long || not (goes_on word behind))) refl f

-- nothing behind a name goes on with it
name_ends : (cs : List Character) → begins_as_name_part (drop (name_run cs) cs) ≡ false
name_ends [] = refl
name_ends (c ∷ cs) = rw (run_cons continues_name c cs) (by (continues_name c.code) refl (name_ends cs))
  where
    by : (b : Bool) → continues_name c.code ≡ b → begins_as_name_part (drop (name_run cs) cs) ≡ false →
        begins_as_name_part (drop (if b then suc (name_run cs) else 0) (c ∷ cs)) ≡ false
    by true e rest = rest
    by false e rest = e

number_front : (file_end : ℕ) (c : Character) (cs : List Character) → is_digit_below 10 c.code ≡ true → Stands file_end (c ∷ cs) (number_cut c cs)
unfolding number_cut
number_front file_end c cs digit = by (number_before (drop (name_run cs) cs) (take (suc (name_run cs)) (c ∷ cs))) refl
  where
    by : (o : Option Number) → number_before (drop (name_run cs) cs) (take (suc (name_run cs)) (c ∷ cs)) ≡ o →
        Stands file_end (c ∷ cs) (if_number (bad_number c cs) o (suc (name_run cs)))
    by None e = bad_number_front file_end c cs (rw digit refl)
    by (Some i) e =
        let h = number_is (drop (name_run cs) cs) (take (suc (name_run cs)) (c ∷ cs)) i e in
        Stands.element refl (let fit = run_fits continues_name cs in omega arith) IsOf.integer (IsElement.integer digit h.is h.within (name_ends cs) h.whole)

-- ---- white space, words and comments

space_front : (file_end : ℕ) (c : Character) (cs : List Character) → is_space c.code ≡ true → Stands file_end (c ∷ cs) (cut.Blank (suc (space_run cs)))
space_front file_end c cs e =
    let fit = run_fits is_space cs in
    Stands.element refl (omega arith) IsOf.blank (IsElement.white_space (All-cons (λ d. is_space d.code ≡ true) c (take (space_run cs) cs) e (run_passes is_space cs)))

word_front : (file_end : ℕ) (c : Character) (cs : List Character) → starts_name c.code ≡ true → Stands file_end (c ∷ cs) (cut.Word (suc (name_run cs)))
word_front file_end c cs e =
    let fit = run_fits continues_name cs in Stands.element refl (omega arith) IsOf.word (IsElement.word e (run_passes continues_name cs))

comment_front : (file_end : ℕ) (c d : Character) (cs : List Character) → c.code ≡ 47 → d.code ≡ 42 → Stands file_end (c ∷ d ∷ cs) (comment_cut file_end c cs)
unfolding comment_cut
comment_front file_end c d cs slash star =
    either file_end (c ∷ d ∷ cs) (begins_with 42 (drop (comment_run cs) cs) && begins_with 47 (tail (drop (comment_run cs) cs)))
    (cut.Blank (comment_run cs + 4)) (cut.Fault kind.OpenComment c.start file_end)
    (λ e. let h = and_parts (begins_with 42 (drop (comment_run cs) cs)) _ e in
    let size : comment_run cs + 4 ≡ suc (suc (comment_run cs + 2)) = omega arith in
    let fit = slash_within (comment_run cs) cs h.1 in
    Stands.element refl (omega arith) IsOf.blank (of_size Element.Blank (c ∷ d ∷ cs) _ _ size (IsElement.comment slash star (closed cs h.0 h.1))))
    (λ e. Stands.fault (IsWrong.open_comment (rw (slash, star) refl)))

line_front : (file_end : ℕ) (c d : Character) (cs : List Character) → c.code ≡ 47 → d.code ≡ 47 → Stands file_end (c ∷ d ∷ cs) (cut.Blank (suc (line_run (d ∷ cs))))
line_front file_end c d cs first second =
    let size : suc (line_run (d ∷ cs)) ≡ suc (suc (line_run cs)) =
    let one : line_run (d ∷ cs) ≡ suc (line_run cs) = run_cons (λ code. not (ends_line code)) d cs ∙ rw second refl in ap suc one in
    let fit = run_fits (λ code. not (ends_line code)) (d ∷ cs) in
    Stands.element refl (omega arith) IsOf.blank (of_size Element.Blank (c ∷ d ∷ cs) _ _ size (IsElement.line_comment first second (λ k e l. not-true _ (run_passes (λ code. not (ends_line code)) cs k e l))))

-- ---- character and string literals

literal_front : (file_end : ℕ) (c : Character) (cs : List Character) → is_quote c.code ≡ true → Stands file_end (c ∷ cs) (literal_cut file_end c cs)
unfolding literal_cut
literal_front file_end c cs quote =
    either file_end (c ∷ cs) (begins_with c.code (drop (literal_run c.code false cs) cs)) (cut.Literal (literal_run c.code false cs + 2))
    (cut.Fault kind.OpenText c.start (start_of file_end (drop (literal_run c.code false cs) cs)))
    (λ e. let size : literal_run c.code false cs + 2 ≡ suc (literal_run c.code false cs + 1) = omega arith in
    let whole : take (literal_run c.code false cs + 2) (c ∷ cs) ≡ c ∷ take (literal_run c.code false cs + 1) cs = rw size refl in
    Stands.literal {quote = c} whole quote (quoted c cs quote e))
    (λ e. rw (open_line file_end c.code false cs e) (Stands.fault (IsWrong.open_text quote (no_literal e))))
  where
    no_literal : begins_with c.code (drop (literal_run c.code false cs) cs) ≡ false → (inside behind : List Character) → IsLiteral (c ∷ cs) c inside behind → ⊥
    no_literal e inside behind h =
        let parts = h.parts in
        let rest : cs ≡ inside ++ behind = cc in
        let last = quoted_last c.code quote inside behind h.closed in
        true≢false (sym last ∙ subst (λ text. begins_with c.code (drop (literal_run c.code false text) text) ≡ false) rest e)

-- ---- separators and operators

alone : (n : ℕ) (c : Character) (cs : List Character) → begins_comment c cs ≡ false → ((c.code == 46) && begins_with_digit 10 cs) ≡ false →
    opens_other (take n (c ∷ cs)) (drop n (c ∷ cs)) ≡ false
alone zero c cs h k = refl
alone (suc zero) c cs h k = or_from _ _ h k
alone (suc (suc n)) c [] h k = or_from _ _ h k
alone (suc (suc n)) c (d ∷ ds) h k = refl

sign_front : (file_end : ℕ) (c : Character) (cs : List Character) → is_digit_below 10 c.code ≡ false → ((c.code == 46) && begins_with_digit 10 cs) ≡ false →
    is_quote c.code ≡ false → begins_comment c cs ≡ false → Stands file_end (c ∷ cs) (if_symbol c (symbol_at (c ∷ cs)))
sign_front file_end c cs digit point quote comment = by (symbol_at (c ∷ cs)) refl
  where
    by : (o : Option Symbol) → symbol_at (c ∷ cs) ≡ o → Stands file_end (c ∷ cs) (if_symbol c o)
    by None e = Stands.fault (IsWrong.bad_char (or_from _ _ digit point) comment quote)
    by (Some s) e =
        let fit = sign_fits (symbol_text s) (c ∷ cs) (longest_fits (c ∷ cs) s e) in
        Stands.element refl fit IsOf.sign (IsElement.sign s (taken_text (symbol_text s) (c ∷ cs) (longest_fits (c ∷ cs) s e)) (alone (length (symbol_text s)) c cs comment point))

-- ---- the whole

-- what is cut at a character of which no other kind of element begins
abbrev pub slash_cut : ℕ → Character → List Character → Cut
slash_cut file_end c cs =
    if (c.code == 47) && begins_with 47 cs then cut.Blank (suc (line_run cs))
    else if (c.code == 47) && begins_with 42 cs then comment_cut file_end c (tail cs)
    else if_symbol c (symbol_at (c ∷ cs))

slash_front : (file_end : ℕ) (c : Character) (cs : List Character) → is_digit_below 10 c.code ≡ false → ((c.code == 46) && begins_with_digit 10 cs) ≡ false →
    is_quote c.code ≡ false → Stands file_end (c ∷ cs) (slash_cut file_end c cs)
slash_front file_end c [] digit point quote =
    either file_end (c ∷ []) ((c.code == 47) && false) _ _ (λ e. absurd (true≢false (sym (and_parts (c.code == 47) false e).1)))
    (λ _. either file_end (c ∷ []) ((c.code == 47) && false) _ _ (λ e. absurd (true≢false (sym (and_parts (c.code == 47) false e).1))) (sign_front file_end c [] digit point quote))
slash_front file_end c (d ∷ ds) digit point quote =
    either file_end (c ∷ d ∷ ds) ((c.code == 47) && (d.code == 47)) _ _
    (λ e. let h = and_parts (c.code == 47) _ e in line_front file_end c d ds (eqb-true c.code 47 h.0) (eqb-true d.code 47 h.1))
    (λ _. either file_end (c ∷ d ∷ ds) ((c.code == 47) && (d.code == 42)) _ _
    (λ e. let h = and_parts (c.code == 47) _ e in comment_front file_end c d ds (eqb-true c.code 47 h.0) (eqb-true d.code 42 h.1))
    (sign_front file_end c (d ∷ ds) digit point quote))

pub stands : (file_end : ℕ) (c : Character) (cs : List Character) → Stands file_end (c ∷ cs) (cut_at file_end c cs)
unfolding cut_at
stands file_end c cs =
    let text = c ∷ cs in
    either file_end text (is_space c.code) _ _ (space_front file_end c cs) (λ _. either file_end text (starts_name c.code) _ _ (word_front file_end c cs)
    (λ _. either file_end text (is_digit_below 10 c.code) _ _ (number_front file_end c cs)
    (λ digit. either file_end text ((c.code == 46) && begins_with_digit 10 cs) _ _ (λ point. bad_number_front file_end c cs (rw (digit, point) refl))
    (λ point. either file_end text ((c.code == 34) || (c.code == 39)) _ _ (literal_front file_end c cs)
    (slash_front file_end c cs digit point)))))
