-- The next element of a text, if any, is the one that is cut there.
use Rattle.std.proofs.Common.{◌≡◌, ◌⊎◌, ℕ, ◌<◌, ◌≤◌, true, false, ◌==◌, List, [], ◌∷◌, ◌++◌, length, map, take, drop, Some, refl, sym, ap, subst, ◌∙◌, arith, inl, inr, true≢false, length-take, length-append}
use Rattle.std.proofs.lemmas.Bool.{or_cases, eqb-true}
use Rattle.je_decode.specs.declared.character.Character.{Character}
use Rattle.je_token.specs.Texts.{symbol_text}
use Rattle.je_lexer.specs.Classes.{begins_with, is_quote}
use Rattle.je_lexer.specs.Elements.{Element, IsQuoted, IsElement, IsNext, BeginsNone, body}
use Rattle.je_lexer.specs.Faults.{IsLiteral, IsWrong}
use Rattle.je_lexer.specs.Texts.{Means}
use Rattle.je_lexer.specs.declared.cutting.Cut.{Cut}
use Rattle.je_lexer.specs.declared.cutting.Cut.TheVariants as cut
use Rattle.je_lexer.specs.declared.fault.FaultKind.{FaultKind}
use Rattle.je_lexer.specs.way.Cutting.{cut_at, cut_len, front_of, IsOf, IsBad}
use Rattle.je_lexer.proofs.Covers.{Covers, CoversAt, front_covered, is_literal}
use Rattle.je_lexer.proofs.ElementSymbols.{symbols_plain}
use Rattle.je_lexer.proofs.Found.{Stands, stands}
use Rattle.je_lexer.proofs.Fronts.{split, front_is, front_fits, same_front}
use Rattle.je_lexer.proofs.Meanings.{same_some, meaning_is_well, one_meaning}

one_of : (k : Cut) (front : List Character) (e f : Element) → IsOf k front e → IsOf k front f → e ≡ f
one_of _ front _ _ IsOf.blank IsOf.blank = refl
one_of _ front _ _ IsOf.word IsOf.word = refl
one_of _ front _ _ IsOf.sign IsOf.sign = refl
one_of _ front _ _ IsOf.integer IsOf.integer = refl
one_of _ front _ _ (IsOf.char_literal {unit = u} quote means) (IsOf.char_literal {unit = v} quote' means') =
    let units = one_meaning (body front) (u ∷ []) (v ∷ []) means means' in let same : u ≡ v = cc in ap Element.Char same
one_of _ front _ _ (IsOf.char_literal quote means) (IsOf.text_literal quote' means') = absurd (cc)
one_of _ front _ _ (IsOf.text_literal quote means) (IsOf.char_literal quote' means') = absurd (cc)
one_of _ front _ _ (IsOf.text_literal {units = us} quote means) (IsOf.text_literal {units = vs} quote' means') = ap Element.Text (one_meaning (body front) us vs means means')

char_or_bad : (n : ℕ) (front : List Character) (u : ℕ) (kind : FaultKind) (start end : ℕ) → Means (body front) (u ∷ []) → IsBad (cut.Literal n) front kind start end → ⊥
char_or_bad n front u _ _ _ means (IsBad.bad_escape {bad = b} worse) = meaning_is_well (body front) (u ∷ []) b means worse
char_or_bad n front u _ _ _ means (IsBad.no_unit {units = units} quote means' many) = many (ap length (one_meaning (body front) units (u ∷ []) means' means))

text_or_bad : (n : ℕ) (front : List Character) (us : List ℕ) (kind : FaultKind) (start end : ℕ) → begins_with 39 front ≡ false → Means (body front) us →
    IsBad (cut.Literal n) front kind start end → ⊥
text_or_bad n front us _ _ _ quote means (IsBad.bad_escape {bad = b} worse) = meaning_is_well (body front) us b means worse
text_or_bad n front us _ _ _ quote means (IsBad.no_unit quote' means' many) = absurd (cc)

of_or_bad : (k : Cut) (text : List Character) (n : ℕ) (e : Element) (kind : FaultKind) (start end : ℕ) → cut_len k ≡ Some n → IsOf k (take n text) e →
    IsBad k (front_of (cut_len k) text) kind start end → ⊥
of_or_bad _ text n _ kind start end len IsOf.blank bad = elim bad [ ]
of_or_bad _ text n _ kind start end len IsOf.word bad = elim bad [ ]
of_or_bad _ text n _ kind start end len IsOf.sign bad = elim bad [ ]
of_or_bad _ text n _ kind start end len IsOf.integer bad = elim bad [ ]
of_or_bad _ text n _ kind start end len (IsOf.char_literal {n = m} {unit = u} quote means) bad =
    char_or_bad m (take n text) u kind start end means (subst (λ i. IsBad (cut.Literal m) (take i text) kind start end) (same_some (Some m) m n refl len) bad)
of_or_bad _ text n _ kind start end len (IsOf.text_literal {n = m} {units = us} quote means) bad =
    text_or_bad m (take n text) us kind start end quote means (subst (λ i. IsBad (cut.Literal m) (take i text) kind start end) (same_some (Some m) m n refl len) bad)

-- ---- from what is cut

literal_element : (front rest : List Character) (quote : Character) (inside : List Character) (n : ℕ) (e : Element) → front ≡ quote ∷ inside → is_quote quote.code ≡ true →
    IsQuoted quote.code inside → IsOf (cut.Literal n) front e → IsElement e front rest
literal_element front rest quote inside n _ is opened closed (IsOf.char_literal {unit = u} single means) =
    let code : quote.code ≡ 39 = eqb-true quote.code 39 (rw is at single) in
    rw is (IsElement.char_literal code (rw code at closed) (rw is at means))
literal_element front rest quote inside n _ is opened closed (IsOf.text_literal {units = us} double means) =
    let single : (quote.code == 39) ≡ false = rw is at double in
    let code : quote.code ≡ 34 = by (or_cases (quote.code == 34) (quote.code == 39) opened) single in
    rw is (IsElement.text_literal code (rw code at closed) (rw is at means))
  where
    by : ((quote.code == 34) ≡ true) ⊎ ((quote.code == 39) ≡ true) → (quote.code == 39) ≡ false → quote.code ≡ 34
    by (inl e) f = eqb-true quote.code 34 e
    by (inr e) f = absurd (true≢false (sym e ∙ f))

element_from : (file_end : ℕ) (text : List Character) (k : Cut) (n : ℕ) (e : Element) → Stands file_end text k → cut_len k ≡ Some n → IsOf k (take n text) e →
    IsElement e (take n text) (drop n text)
element_from file_end text k n e (Stands.element {n = m} {e = f} len fit of element) is other =
    let size : n ≡ m = same_some (cut_len k) n m is len in
    let whole : IsElement f (take n text) (drop n text) = rw size element in
    let again : IsOf k (take n text) f = rw size of in
    rw (one_of k (take n text) e f other again) whole
element_from file_end text _ n e (Stands.literal {n = m} {quote = quote} {inside = inside} front opened closed) is other =
    let size : m ≡ n = same_some (Some m) m n refl is in
    literal_element (take n text) (drop n text) quote inside m e (rw (← size) front) opened closed other
element_from file_end text _ n e (Stands.fault wrong) is other = absurd (cc)

covered : (file_end : ℕ) (c : Character) (cs : List Character) (e : Element) (front behind : List Character) → c ∷ cs ≡ front ++ behind → IsElement e front behind →
    Covers front e (cut_at file_end c cs)
covered file_end c cs e front behind parts h = subst (CoversAt file_end front e) (sym parts) (front_covered file_end e front behind h)

not_longer : (front : List Character) (e : Element) (k : Cut) (n : ℕ) → cut_len k ≡ Some n → Covers front e k → length front ≤ n
not_longer front e k n len (Covers.same is of) = let size : length front ≡ n = same_some (cut_len k) (length front) n is len in omega arith
not_longer front e k n len (Covers.shorter {n = m} is plain less) = let size : m ≡ n = same_some (cut_len k) m n is len in omega arith

-- what is cut at the front of a text is its next element
pub next_from_cut : (file_end : ℕ) (c : Character) (cs : List Character) (n : ℕ) (e : Element) → cut_len (cut_at file_end c cs) ≡ Some n →
    IsOf (cut_at file_end c cs) (take n (c ∷ cs)) e → IsNext (c ∷ cs) e (take n (c ∷ cs)) (drop n (c ∷ cs))
next_from_cut file_end c cs n e len of = record {
  parts = split n (c ∷ cs);
  element = element_from file_end (c ∷ cs) (cut_at file_end c cs) n e (stands file_end c cs) len of;
  longest = λ other ahead left parts h.
      let reach = not_longer ahead other (cut_at file_end c cs) n len (covered file_end c cs other ahead left parts h) in
      let room = front_fits (c ∷ cs) ahead left parts in
      let size = length-take n (c ∷ cs) in
      omega arith;
}

no_bad : (text front : List Character) (e : Element) (k : Cut) (kind : FaultKind) (start end : ℕ) → front ≡ take (length front) text → Covers front e k →
    IsBad k (front_of (cut_len k) text) kind start end → ⊥
no_bad text front e k kind start end is (Covers.same len of) bad = of_or_bad k text (length front) e kind start end len (subst (λ f. IsOf k f e) is of) bad
no_bad text front e _ _ _ _ is (Covers.shorter len plain less) IsBad.uncut = absurd (cc)
no_bad text front e _ _ _ _ is (Covers.shorter len plain less) (IsBad.bad_escape worse) = true≢false plain
no_bad text front e _ _ _ _ is (Covers.shorter len plain less) (IsBad.no_unit quote means many) = true≢false plain

-- where what is cut is no element, none begins
pub none_from_cut : (file_end : ℕ) (c : Character) (cs : List Character) (kind : FaultKind) (start end : ℕ) →
    IsBad (cut_at file_end c cs) (front_of (cut_len (cut_at file_end c cs)) (c ∷ cs)) kind start end → BeginsNone (c ∷ cs)
none_from_cut file_end c cs kind start end bad e front behind parts h =
    no_bad (c ∷ cs) front e (cut_at file_end c cs) kind start end (front_is (c ∷ cs) front behind parts) (covered file_end c cs e front behind parts h) bad

wrong_from : (file_end : ℕ) (text : List Character) (k : Cut) (kind : FaultKind) (start end : ℕ) → Stands file_end text k →
    IsBad k (front_of (cut_len k) text) kind start end → IsWrong file_end text kind start end
wrong_from file_end text k kind start end (Stands.element {n = n} {e = e} len fit of element) bad = absurd (of_or_bad k text n e kind start end len of bad)
wrong_from file_end text _ _ _ _ (Stands.fault wrong) IsBad.uncut = wrong
wrong_from file_end text _ _ _ _ (Stands.literal {n = n} {quote = quote} {inside = inside} front opened closed) (IsBad.bad_escape {bad = bad} worse) =
    let literal : IsLiteral text quote inside (drop n text) = record { parts = subst (λ f. text ≡ f ++ drop n text) front (split n text); opened = opened; closed = closed } in
    IsWrong.bad_escape literal (rw front at worse)
wrong_from file_end text _ _ _ _ (Stands.literal {n = n} {quote = quote} {inside = inside} front opened closed) (IsBad.no_unit single means many) =
    let literal : IsLiteral text quote inside (drop n text) = record { parts = subst (λ f. text ≡ f ++ drop n text) front (split n text); opened = opened; closed = closed } in
    rw front (IsWrong.no_unit literal (eqb-true quote.code 39 (rw front at single)) (rw front at means) many)

-- where what is cut is no element, that is what stands there instead
pub wrong_from_cut : (file_end : ℕ) (c : Character) (cs : List Character) (kind : FaultKind) (start end : ℕ) →
    IsBad (cut_at file_end c cs) (front_of (cut_len (cut_at file_end c cs)) (c ∷ cs)) kind start end → IsWrong file_end (c ∷ cs) kind start end
wrong_from_cut file_end c cs kind start end bad = wrong_from file_end (c ∷ cs) (cut_at file_end c cs) kind start end (stands file_end c cs) bad

-- ---- from the next element

-- what is cut is an element, or else a literal or none
shorter_is_none : (file_end : ℕ) (text front : List Character) (k : Cut) (n : ℕ) → Stands file_end text k → cut_len k ≡ Some n → is_literal k ≡ false → length front < n →
    ((other : Element) (ahead left : List Character) → text ≡ ahead ++ left → IsElement other ahead left → length ahead ≤ length front) → ⊥
shorter_is_none file_end text front k n (Stands.element {n = m} {e = e} len fit of element) is plain less longest =
    let size : m ≡ n = same_some (cut_len k) m n len is in
    let reach = longest e (take m text) (drop m text) (split m text) element in
    let long = length-take m text in
    absurd (omega arith)
shorter_is_none file_end text front _ n (Stands.literal f opened closed) is plain less longest = absurd (true≢false plain)
shorter_is_none file_end text front _ n (Stands.fault wrong) is plain less longest = absurd (cc)

-- The element is what is cut.
pub record IsCut (front : List Character) (e : Element) (k : Cut) : Type 0 where
  pub len : cut_len k ≡ Some (length front)
  pub of : IsOf k front e

pub cut_from_next : (file_end : ℕ) (c : Character) (cs : List Character) (e : Element) (front behind : List Character) → IsNext (c ∷ cs) e front behind →
    IsCut front e (cut_at file_end c cs)
cut_from_next file_end c cs e front behind next = by (cut_at file_end c cs) (stands file_end c cs) (covered file_end c cs e front behind next.parts next.element)
  where
    by : (k : Cut) → Stands file_end (c ∷ cs) k → Covers front e k → IsCut front e k
    by k stand (Covers.same len of) = record { len = len; of = of }
    by k stand (Covers.shorter {n = n} len plain less) = absurd (shorter_is_none file_end (c ∷ cs) front k n stand len plain less next.longest)

-- an element has some characters
pub element_some : (e : Element) (front behind : List Character) → IsElement e front behind → 0 < length front
element_some _ _ behind (IsElement.white_space h) = omega arith
element_some _ _ behind (IsElement.line_comment first second h) = omega arith
element_some _ _ behind (IsElement.comment slash star h) = omega arith
element_some _ _ behind (IsElement.word starts h) = omega arith
element_some _ front behind (IsElement.sign s e alone) = by front e
  where
    by : (front : List Character) → map (λ c. c.code) front ≡ symbol_text s → 0 < length front
    by [] e = absurd (true≢false (sym (symbols_plain s) ∙ rw (← e) refl))
    by (c ∷ cs) e = omega arith
element_some _ _ behind (IsElement.integer digit is small ends whole) = omega arith
element_some _ _ behind (IsElement.char_literal is h means) = omega arith
element_some _ _ behind (IsElement.text_literal is h means) = omega arith

pub next_some : (text : List Character) (e : Element) (front behind : List Character) → IsNext text e front behind → 0 < length front
next_some text e front behind next = element_some e front behind next.element

-- the characters behind an element are fewer
pub next_shorter : (text : List Character) (e : Element) (front behind : List Character) → IsNext text e front behind → length behind < length text
next_shorter text e front behind next =
    let some = next_some text e front behind next in let sizes = ap length next.parts in let whole = length-append front behind in omega arith

-- a text has one next element at most
pub one_next : (text : List Character) (e f : Element) (front behind front1 behind1 : List Character) → IsNext text e front behind → IsNext text f front1 behind1 →
    (e ≡ f) × (front ≡ front1) × (behind ≡ behind1)
one_next text e f front behind front1 behind1 next other =
    let less = next.longest f front1 behind1 other.parts other.element in
    let more = other.longest e front behind next.parts next.element in
    let same = same_front text front behind front1 behind1 next.parts other.parts (omega arith) in
    (one_element text e f front behind next (rw same.0 other), same.0, same.1)
  where
    one_element : (text : List Character) (e f : Element) (front behind : List Character) → IsNext text e front behind → IsNext text f front behind1 → e ≡ f
    one_element [] e f front behind next other =
        let short = next_shorter [] e front behind next in absurd (omega arith)
    one_element (c ∷ cs) e f front behind next other =
        one_of (cut_at 0 c cs) front e f (cut_from_next 0 c cs e front behind next).of (cut_from_next 0 c cs f front behind1 other).of
