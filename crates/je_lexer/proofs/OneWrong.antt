-- What stands where no element begins has one kind and one place.
use Rattle.std.proofs.Common.{◌≡◌, ◌≢◌, ℕ, Bool, true, false, ◌==◌, List, [], ◌∷◌, ◌++◌, length, refl, sym, ap, subst, ◌∙◌, ⊎_elim, true≢false}
use Rattle.std.proofs.lemmas.Bool.{and_parts, or_cases, eqb-true}
use Rattle.je_decode.specs.declared.character.Character.{Character}
use Rattle.je_lexer.specs.Classes.{is_quote}
use Rattle.je_lexer.specs.Elements.{IsQuoted, body}
use Rattle.je_lexer.specs.Faults.{IsWrong, begins_number, begins_comment}
use Rattle.je_lexer.specs.Spans.{end_of, line_end, number_end}
use Rattle.je_lexer.specs.Texts.{Means, HasBadBackslash}
use Rattle.je_lexer.specs.declared.fault.FaultKind.{FaultKind}
use Rattle.je_lexer.specs.declared.fault.FaultKind.TheVariants as fault
use Rattle.je_lexer.proofs.Literals.{one_literal}
use Rattle.je_lexer.proofs.Meanings.{meaning_is_well, one_backslash}

abbrev pub AreSame : FaultKind → FaultKind → ℕ → ℕ → ℕ → ℕ → Type 0
AreSame kind kind1 start end start1 end1 = (kind ≡ kind1) × (start ≡ start1) × (end ≡ end1)

-- what a quote with no literal behind it is
data IsBadLiteral (file_end : ℕ) (c : Character) (cs : List Character) : FaultKind → ℕ → ℕ → Type 0 where
  bad_escape : {inside : List Character} {bad : Character} (behind : List Character) → cs ≡ inside ++ behind → IsQuoted c.code inside → HasBadBackslash (body (c ∷ inside)) bad →
      IsBadLiteral file_end c cs fault.BadEscape bad.start bad.end
  open_text : ((inside behind : List Character) → cs ≡ inside ++ behind → IsQuoted c.code inside → ⊥) → IsBadLiteral file_end c cs fault.OpenText c.start (line_end file_end cs)
  no_unit : {inside : List Character} {units : List ℕ} (behind : List Character) → cs ≡ inside ++ behind → IsQuoted c.code inside → Means (body (c ∷ inside)) units → length units ≢ 1 →
      IsBadLiteral file_end c cs fault.BadLiteral c.start (end_of c.end inside)

one_bad_literal : (file_end : ℕ) (c : Character) (cs : List Character) (kind kind1 : FaultKind) (start end start1 end1 : ℕ) → is_quote c.code ≡ true →
    IsBadLiteral file_end c cs kind start end → IsBadLiteral file_end c cs kind1 start1 end1 → AreSame kind kind1 start end start1 end1
one_bad_literal file_end c cs _ _ _ _ _ _ quote (IsBadLiteral.bad_escape {inside = i} {bad = x} b e h worse) (IsBadLiteral.bad_escape {inside = j} {bad = y} d f k worse') =
    let same = one_literal c.code quote cs i b j d e f h k in
    let one = one_backslash (body (c ∷ i)) x y worse (rw same worse') in
    (refl, ap (λ (c : Character). c.start) one, ap (λ (c : Character). c.end) one)
one_bad_literal file_end c cs _ _ _ _ _ _ quote (IsBadLiteral.bad_escape {inside = i} b e h worse) (IsBadLiteral.open_text none) = absurd (none i b e h)
one_bad_literal file_end c cs _ _ _ _ _ _ quote (IsBadLiteral.bad_escape {inside = i} {bad = x} b e h worse) (IsBadLiteral.no_unit {inside = j} {units = units} d f k means many) =
    let same = one_literal c.code quote cs i b j d e f h k in
    absurd (meaning_is_well (body (c ∷ i)) units x (rw same means) worse)
one_bad_literal file_end c cs _ _ _ _ _ _ quote (IsBadLiteral.open_text none) (IsBadLiteral.bad_escape {inside = i} b e h worse) = absurd (none i b e h)
one_bad_literal file_end c cs _ _ _ _ _ _ quote (IsBadLiteral.open_text none) (IsBadLiteral.open_text none') = (refl, refl, refl)
one_bad_literal file_end c cs _ _ _ _ _ _ quote (IsBadLiteral.open_text none) (IsBadLiteral.no_unit {inside = i} b e h means many) = absurd (none i b e h)
one_bad_literal file_end c cs _ _ _ _ _ _ quote (IsBadLiteral.no_unit {inside = j} {units = units} d f k means many) (IsBadLiteral.bad_escape {inside = i} {bad = x} b e h worse) =
    let same = one_literal c.code quote cs i b j d e f h k in
    absurd (meaning_is_well (body (c ∷ i)) units x (rw same means) worse)
one_bad_literal file_end c cs _ _ _ _ _ _ quote (IsBadLiteral.no_unit {inside = i} b e h means many) (IsBadLiteral.open_text none) = absurd (none i b e h)
one_bad_literal file_end c cs _ _ _ _ _ _ quote (IsBadLiteral.no_unit {inside = i} b e h means many) (IsBadLiteral.no_unit {inside = j} d f k means' many') =
    let same = one_literal c.code quote cs i b j d e f h k in (refl, refl, ap (end_of c.end) same)

-- what stands at a character, by the first test that it passes
abbrev Says : ℕ → Character → List Character → FaultKind → ℕ → ℕ → Bool → Bool → Bool → Type 0
Says file_end c cs kind start end true number comment = IsBadLiteral file_end c cs kind start end
Says file_end c cs kind start end false true comment = AreSame kind fault.BadLiteral start end c.start (number_end c.end cs)
Says file_end c cs kind start end false false true = AreSame kind fault.OpenComment start end c.start file_end
Says file_end c cs kind start end false false false = AreSame kind fault.BadChar start end c.start c.end

one_saying : (file_end : ℕ) (c : Character) (cs : List Character) (kind kind1 : FaultKind) (start end start1 end1 : ℕ) (quote number comment : Bool) → is_quote c.code ≡ quote →
    Says file_end c cs kind start end quote number comment → Says file_end c cs kind1 start1 end1 quote number comment → AreSame kind kind1 start end start1 end1
one_saying file_end c cs kind kind1 start end start1 end1 true number comment is h k = one_bad_literal file_end c cs kind kind1 start end start1 end1 is h k
one_saying file_end c cs kind kind1 start end start1 end1 false true comment is h k = (h.0 ∙ sym k.0, h.1 ∙ sym k.1, h.2 ∙ sym k.2)
one_saying file_end c cs kind kind1 start end start1 end1 false false true is h k = (h.0 ∙ sym k.0, h.1 ∙ sym k.1, h.2 ∙ sym k.2)
one_saying file_end c cs kind kind1 start end start1 end1 false false false is h k = (h.0 ∙ sym k.0, h.1 ∙ sym k.1, h.2 ∙ sym k.2)

-- a quote begins no number
quote_no_number : (c : Character) (cs : List Character) → is_quote c.code ≡ true → begins_number c cs ≡ false
quote_no_number c cs e = ⊎_elim (λ e. rw (eqb-true c.code 34 e) refl) (λ e. rw (eqb-true c.code 39 e) refl) (or_cases (c.code == 34) (c.code == 39) e)

number_no_quote : (c : Character) (cs : List Character) → begins_number c cs ≡ true → is_quote c.code ≡ false
number_no_quote c cs e = by (is_quote c.code) refl
  where
    by : (b : Bool) → is_quote c.code ≡ b → is_quote c.code ≡ false
    by true q = absurd (true≢false (sym e ∙ quote_no_number c cs q))
    by false q = q

-- `/` is no quote and begins no number
comment_no_other : (c : Character) (cs : List Character) → begins_comment c cs ≡ true → (is_quote c.code ≡ false) × (begins_number c cs ≡ false)
comment_no_other c cs e = let h = and_parts (c.code == 47) _ e in let code = eqb-true c.code 47 h.0 in (rw code refl, rw code refl)

abbrev SaysAt : ℕ → List Character → FaultKind → ℕ → ℕ → Type 0
SaysAt file_end [] kind start end = ⊥
SaysAt file_end (c ∷ cs) kind start end = Says file_end c cs kind start end (is_quote c.code) (begins_number c cs) (begins_comment c cs)

as_quote : (file_end : ℕ) (c : Character) (cs : List Character) (kind : FaultKind) (start end : ℕ) → is_quote c.code ≡ true → IsBadLiteral file_end c cs kind start end →
    SaysAt file_end (c ∷ cs) kind start end
as_quote file_end c cs kind start end is h = rw is h

says : (file_end : ℕ) (text : List Character) (kind : FaultKind) (start end : ℕ) → IsWrong file_end text kind start end → SaysAt file_end text kind start end
says file_end text _ _ _ (IsWrong.bad_escape {inside = i} {behind = b} {quote = c} {bad = x} literal worse) =
    subst (λ text. SaysAt file_end text fault.BadEscape x.start x.end) (sym literal.parts)
    (as_quote file_end c (i ++ b) _ _ _ literal.opened (IsBadLiteral.bad_escape b refl literal.closed worse))
says file_end _ _ _ _ (IsWrong.bad_char number comment quote) = rw (quote, number, comment) (refl, refl, refl)
says file_end _ _ _ _ (IsWrong.open_comment {c = c} {cs = cs} comment) =
    let h = comment_no_other c cs comment in let quote = h.0 in let number = h.1 in rw (quote, number, comment) (refl, refl, refl)
says file_end _ _ _ _ (IsWrong.open_text {quote = c} {cs = cs} opened none) =
    as_quote file_end c cs _ _ _ opened
    (IsBadLiteral.open_text (λ inside behind parts closed. none inside behind (record { parts = ap (λ ds. c ∷ ds) parts; opened = opened; closed = closed })))
says file_end _ _ _ _ (IsWrong.bad_number {c = c} {cs = cs} number) =
    let quote = number_no_quote c cs number in rw (quote, number) (refl, refl, refl)
says file_end text _ _ _ (IsWrong.no_unit {inside = i} {behind = b} {quote = c} literal single means many) =
    subst (λ text. SaysAt file_end text fault.BadLiteral c.start (end_of c.end i)) (sym literal.parts)
    (as_quote file_end c (i ++ b) _ _ _ literal.opened (IsBadLiteral.no_unit b refl literal.closed means many))

pub one_wrong : (file_end : ℕ) (text : List Character) (kind kind1 : FaultKind) (start end start1 end1 : ℕ) → IsWrong file_end text kind start end →
    IsWrong file_end text kind1 start1 end1 → AreSame kind kind1 start end start1 end1
one_wrong file_end text kind kind1 start end start1 end1 h k = by text (says file_end text kind start end h) (says file_end text kind1 start1 end1 k)
  where
    by : (text : List Character) → SaysAt file_end text kind start end → SaysAt file_end text kind1 start1 end1 → AreSame kind kind1 start end start1 end1
    by [] h k = absurd h
    by (c ∷ cs) h k = one_saying file_end c cs kind kind1 start end start1 end1 (is_quote c.code) (begins_number c cs) (begins_comment c cs) refl h k

-- nothing stands at a text's end
pub wrong_some : (file_end : ℕ) (kind : FaultKind) (start end : ℕ) → IsWrong file_end [] kind start end → ⊥
wrong_some file_end kind start end h = says file_end [] kind start end h
