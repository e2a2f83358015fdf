-- An input element at the front of a text is what is cut there, or shorter.
use Rattle.std.proofs.Common.{◌≡◌, ℕ, suc, ◌+◌, ◌<◌, ◌≤◌, Bool, true, false, not, ◌&&◌, ◌||◌, ◌==◌, nat_lt, List, [], ◌∷◌, ◌++◌, length, map, take, drop, Option, Some, None, if◌then◌else◌, All, refl, sym, ap, subst, ◌∙◌, arith, ⊎_elim, true≢false}
use Rattle.std.specs.Char.{is_ascii_alphabetic}
use Rattle.std.proofs.lemmas.Bool.{and_parts, or_cases, or_parts, eqb-true, not-true, ltb-true, ltb-false, lt-ltb}
use Rattle.std.proofs.lemmas.List.{length-map}
use Rattle.std.proofs.lemmas.List.Elements.{All-cons, All-head, All-tail}
use Rattle.je_decode.specs.declared.character.Character.{Character}
use Rattle.je_token.specs.Texts.{symbol_text}
use Rattle.je_token.specs.declared.symbol.Symbol.{Symbol}
use Rattle.je_lexer.specs.Classes.{is_space, ends_line, starts_name, continues_name, is_digit_below, is_quote, begins_with, begins_with_digit, begins_as_name_part}
use Rattle.je_lexer.specs.Elements.{Element, IsClosed, IsQuoted, IsElement, opens_other}
use Rattle.je_lexer.specs.Numbers.{number, limit, goes_on, is_floating}
use Rattle.je_lexer.specs.declared.cutting.Cut.{Cut}
use Rattle.je_lexer.specs.declared.cutting.Cut.TheVariants as cut
use Rattle.je_lexer.specs.declared.numbers.Number.{Number}
use Rattle.je_lexer.specs.way.Cutting.{cut_at, cut_len, number_cut, literal_cut, comment_cut, bad_number, if_number, if_symbol, IsOf}
use Rattle.je_lexer.specs.way.Numbers.{number_before, in_limit, is_long}
use Rattle.je_lexer.specs.way.Runs.{space_run, name_run, line_run, comment_run, literal_run}
use Rattle.je_lexer.specs.way.Symbols.{symbol_at, symbol_len}
use Rattle.je_lexer.proofs.Comments.{closed_run, closed_last}
use Rattle.je_lexer.proofs.ElementClasses.{ascii_starts, name_spaces, digit_starts, digit_spaces, number_continues}
use Rattle.je_lexer.proofs.ElementSymbols.{is_plain, is_second_plain, symbols_plain, symbol_covers, one_symbol}
use Rattle.je_lexer.proofs.Found.{slash_cut}
use Rattle.je_lexer.proofs.Fronts.{taken as front_taken, dropped}
use Rattle.je_lexer.proofs.Longest.{run_cons, run_reaches}
use Rattle.je_lexer.proofs.Literals.{quoted_run, quoted_last}

abbrev pub is_literal : Cut → Bool
is_literal (cut.Literal n) = true
is_literal k = false

-- the element is what is cut; or what is cut is longer, and no literal
pub data Covers (front : List Character) (e : Element) : Cut → Type 0 where
  same : {k : Cut} → cut_len k ≡ Some (length front) → IsOf k front e → Covers front e k
  shorter : {k : Cut} {n : ℕ} → cut_len k ≡ Some n → is_literal k ≡ false → length front < n → Covers front e k

module _ (front : List Character) (e : Element) where
  reaches : (k : Cut) (n : ℕ) → cut_len k ≡ Some n → is_literal k ≡ false → IsOf k front e → length front ≤ n → Covers front e k
  reaches k n len plain is reach = by (nat_lt (length front) n) refl
    where
      by : (b : Bool) → nat_lt (length front) n ≡ b → Covers front e k
      by true less = Covers.shorter len plain (ltb-true (length front) n less)
      by false more =
          let back = ltb-false (length front) n more in let size : n ≡ length front = omega arith in Covers.same (len ∙ ap (λ m. Some m) size) is

  taken : (b : Bool) (j k : Cut) → b ≡ true → Covers front e j → Covers front e (if b then j else k)
  taken true j k is h = h
  taken false j k is h = absurd (true≢false (sym is))

  passed : (b : Bool) (j k : Cut) → b ≡ false → Covers front e k → Covers front e (if b then j else k)
  passed true j k is h = absurd (true≢false is)
  passed false j k is h = h

  either : (b : Bool) (j k : Cut) → (b ≡ true → Covers front e j) → (b ≡ false → Covers front e k) → Covers front e (if b then j else k)
  either true j k f g = f refl
  either false j k f g = g refl

-- ---- white space and words

spaces_reach : (cs rest : List Character) → All (λ d. is_space d.code ≡ true) cs → length cs ≤ space_run (cs ++ rest)
spaces_reach = run_reaches is_space

names_reach : (cs rest : List Character) → All (λ d. continues_name d.code ≡ true) cs → length cs ≤ name_run (cs ++ rest)
names_reach = run_reaches continues_name

lines_reach : (cs rest : List Character) → All (λ d. ends_line d.code ≡ false) cs → length cs ≤ line_run (cs ++ rest)
lines_reach cs rest h = run_reaches (λ code. not (ends_line code)) cs rest (λ k d l. rw (h k d l) refl)

space_covered : (file_end : ℕ) (c : Character) (cs rest : List Character) → All (λ d. is_space d.code ≡ true) (c ∷ cs) →
    Covers (c ∷ cs) Element.Blank (cut_at file_end c (cs ++ rest))
unfolding cut_at
space_covered file_end c cs rest h =
    let reach = spaces_reach cs rest (All-tail (λ d. is_space d.code ≡ true) c cs h) in
    taken (c ∷ cs) Element.Blank (is_space c.code) _ _ (All-head (λ d. is_space d.code ≡ true) c cs h)
    (reaches (c ∷ cs) Element.Blank (cut.Blank (suc (space_run (cs ++ rest)))) (suc (space_run (cs ++ rest))) refl refl IsOf.blank (omega arith))

word_covered : (file_end : ℕ) (c : Character) (cs rest : List Character) → starts_name c.code ≡ true → All (λ d. continues_name d.code ≡ true) cs →
    Covers (c ∷ cs) Element.Word (cut_at file_end c (cs ++ rest))
unfolding cut_at
word_covered file_end c cs rest starts h =
    let reach = names_reach cs rest h in
    passed (c ∷ cs) Element.Word (is_space c.code) _ _ (name_spaces c.code starts) (taken (c ∷ cs) Element.Word (starts_name c.code) _ _ starts
    (reaches (c ∷ cs) Element.Word (cut.Word (suc (name_run (cs ++ rest)))) (suc (name_run (cs ++ rest))) refl refl IsOf.word (omega arith)))

-- ---- integers

no_run : (rest : List Character) → begins_as_name_part rest ≡ false → name_run rest ≡ 0
no_run [] e = refl
no_run (c ∷ cs) e = rw e refl

whole_run : (cs rest : List Character) → All (λ d. continues_name d.code ≡ true) cs → begins_as_name_part rest ≡ false → name_run (cs ++ rest) ≡ length cs
whole_run [] rest h e = no_run rest e
whole_run (c ∷ cs) rest h e =
    let more = whole_run cs rest (All-tail (λ d. continues_name d.code ≡ true) c cs h) e in
    let first = All-head (λ d. continues_name d.code ≡ true) c cs h in
    run_cons continues_name c (cs ++ rest) ∙ rw first (ap suc more)

within : (j : Number) (word behind : List Character) → j.value < limit j → is_floating j word behind ≡ false →
    (in_limit (Some j) && (is_long (Some j) || not (goes_on word behind))) ≡ true
within j word behind small whole = rw (lt-ltb j.value (limit j) small) (by j.long (goes_on word behind) whole)
  where
    by : (a b : Bool) → (not a && b) ≡ false → (a || not b) ≡ true
    by true b e = refl
    by false true e = absurd (true≢false e)
    by false false e = refl

before : (word behind : List Character) (i : Number) → number word ≡ Some i → i.value < limit i → is_floating i word behind ≡ false → number_before behind word ≡ Some i
unfolding number_before
before word behind i is small whole = rw (is, within i word behind small whole) refl

number_cut_is : (c : Character) (cs rest : List Character) (i : Number) → All (λ d. continues_name d.code ≡ true) cs → begins_as_name_part rest ≡ false →
    number_before rest (c ∷ cs) ≡ Some i → number_cut c (cs ++ rest) ≡ cut.Number i (suc (length cs))
unfolding number_cut
number_cut_is c cs rest i h ends found =
    let run = whole_run cs rest h ends in
    let word : take (suc (name_run (cs ++ rest))) (c ∷ cs ++ rest) ≡ c ∷ cs = rw run (ap (λ ds. c ∷ ds) (front_taken cs rest)) in
    let behind : drop (name_run (cs ++ rest)) (cs ++ rest) ≡ rest = rw run (dropped cs rest) in
    let Q = λ (w b : List Character). if_number (bad_number c (cs ++ rest)) (number_before b w) (suc (name_run (cs ++ rest))) in
    let first : number_cut c (cs ++ rest) ≡ Q (c ∷ cs) rest = ap (λ w. Q w (drop (name_run (cs ++ rest)) (cs ++ rest))) word ∙ ap (λ b. Q (c ∷ cs) b) behind in
    first ∙ ap (λ o. if_number (bad_number c (cs ++ rest)) o (suc (name_run (cs ++ rest)))) found ∙ ap (λ n. cut.Number i (suc n)) run

integer_covered : (file_end : ℕ) (c : Character) (cs rest : List Character) (i : Number) → is_digit_below 10 c.code ≡ true → All (λ d. continues_name d.code ≡ true) cs →
    begins_as_name_part rest ≡ false → number_before rest (c ∷ cs) ≡ Some i → Covers (c ∷ cs) (Element.Integer i) (cut_at file_end c (cs ++ rest))
unfolding cut_at
integer_covered file_end c cs rest i digit h ends found =
    let e = Element.Integer i in
    passed (c ∷ cs) e (is_space c.code) _ _ (digit_spaces c.code digit) (passed (c ∷ cs) e (starts_name c.code) _ _ (digit_starts c.code digit)
    (taken (c ∷ cs) e (is_digit_below 10 c.code) _ _ digit
    (subst (Covers (c ∷ cs) e) (sym (number_cut_is c cs rest i h ends found)) (Covers.same refl IsOf.integer))))

-- ---- character and string literals

-- a quote is not in the classes that are tried before it
record IsApart (code : ℕ) : Type 0 where
  space : is_space code ≡ false
  name : starts_name code ≡ false
  digit : is_digit_below 10 code ≡ false
  point : (code == 46) ≡ false

apart_of : (code : ℕ) → is_quote code ≡ true → IsApart code
apart_of code e = ⊎_elim (λ e. subst IsApart (sym (eqb-true code 34 e)) double) (λ e. subst IsApart (sym (eqb-true code 39 e)) single) (or_cases (code == 34) (code == 39) e)
  where
    double : IsApart 34
    double = record { space = refl; name = ascii_starts 34 (omega arith); digit = refl; point = refl }

    single : IsApart 39
    single = record { space = refl; name = ascii_starts 39 (omega arith); digit = refl; point = refl }

literal_cut_is : (file_end : ℕ) (c : Character) (cs rest : List Character) → is_quote c.code ≡ true → IsQuoted c.code cs →
    literal_cut file_end c (cs ++ rest) ≡ cut.Literal (suc (length cs))
unfolding literal_cut
literal_cut_is file_end c cs rest quote h =
    let size = quoted_run c.code quote cs rest h in
    let whole : literal_run c.code false (cs ++ rest) + 2 ≡ suc (length cs) = omega arith in
    rw (quoted_last c.code quote cs rest h) (ap cut.Literal whole)

literal_covered : (file_end : ℕ) (c : Character) (cs rest : List Character) (e : Element) → is_quote c.code ≡ true → IsQuoted c.code cs →
    IsOf (cut.Literal (suc (length cs))) (c ∷ cs) e → Covers (c ∷ cs) e (cut_at file_end c (cs ++ rest))
unfolding cut_at
literal_covered file_end c cs rest e quote h is =
    let other = apart_of c.code quote in
    passed (c ∷ cs) e (is_space c.code) _ _ other.space (passed (c ∷ cs) e (starts_name c.code) _ _ other.name
    (passed (c ∷ cs) e (is_digit_below 10 c.code) _ _ other.digit
    (passed (c ∷ cs) e ((c.code == 46) && begins_with_digit 10 (cs ++ rest)) _ _ (rw other.point refl) (taken (c ∷ cs) e ((c.code == 34) || (c.code == 39)) _ _ quote
    (subst (Covers (c ∷ cs) e) (sym (literal_cut_is file_end c cs rest quote h)) (Covers.same refl is))))))

-- ---- comments

slash_covered : (front : List Character) (e : Element) (file_end : ℕ) (c : Character) (cs : List Character) → c.code ≡ 47 → Covers front e (slash_cut file_end c cs) →
    Covers front e (cut_at file_end c cs)
unfolding cut_at
slash_covered front e file_end c cs is h =
    passed front e (is_space c.code) _ _ (rw is refl) (passed front e (starts_name c.code) _ _ (rw is (ascii_starts 47 (omega arith)))
    (passed front e (is_digit_below 10 c.code) _ _ (rw is refl)
    (passed front e ((c.code == 46) && begins_with_digit 10 cs) _ _ (rw is refl) (passed front e ((c.code == 34) || (c.code == 39)) _ _ (rw is refl) h))))

line_covered : (file_end : ℕ) (c d : Character) (cs rest : List Character) → c.code ≡ 47 → d.code ≡ 47 → All (λ d. ends_line d.code ≡ false) cs →
    Covers (c ∷ d ∷ cs) Element.Blank (cut_at file_end c (d ∷ cs ++ rest))
line_covered file_end c d cs rest first second h =
    let front = c ∷ d ∷ cs in
    let reach : suc (length cs) ≤ line_run (d ∷ cs ++ rest) = lines_reach (d ∷ cs) rest (All-cons (λ e. ends_line e.code ≡ false) d cs (rw second refl) h) in
    slash_covered front Element.Blank file_end c (d ∷ cs ++ rest) first (taken front Element.Blank ((c.code == 47) && (d.code == 47)) _ _ (rw (first, second) refl)
    (reaches front Element.Blank (cut.Blank (suc (line_run (d ∷ cs ++ rest)))) (suc (line_run (d ∷ cs ++ rest))) refl refl IsOf.blank (omega arith)))

comment_cut_is : (file_end : ℕ) (c : Character) (cs rest : List Character) → IsClosed cs → comment_cut file_end c (cs ++ rest) ≡ cut.Blank (suc (suc (length cs)))
unfolding comment_cut
comment_cut_is file_end c cs rest h =
    let size = closed_run cs rest h in
    let whole : comment_run (cs ++ rest) + 4 ≡ suc (suc (length cs)) = omega arith in
    rw (closed_last cs rest h) (ap cut.Blank whole)

comment_covered : (file_end : ℕ) (c d : Character) (cs rest : List Character) → c.code ≡ 47 → d.code ≡ 42 → IsClosed cs →
    Covers (c ∷ d ∷ cs) Element.Blank (cut_at file_end c (d ∷ cs ++ rest))
comment_covered file_end c d cs rest slash star h =
    let front = c ∷ d ∷ cs in
    slash_covered front Element.Blank file_end c (d ∷ cs ++ rest) slash
    (passed front Element.Blank ((c.code == 47) && (d.code == 47)) _ _ (rw (slash, star) refl)
    (taken front Element.Blank ((c.code == 47) && (d.code == 42)) _ _ (rw (slash, star) refl)
    (subst (Covers front Element.Blank) (sym (comment_cut_is file_end c cs rest h)) (Covers.same refl IsOf.blank))))

-- ---- separators and operators

-- the longest sign that stands there is this one, or longer
sign_found : (c : Character) (cs rest : List Character) (s : Symbol) → map (λ c. c.code) (c ∷ cs) ≡ symbol_text s → (o : Option Symbol) →
    symbol_at (c ∷ cs ++ rest) ≡ o → Covers (c ∷ cs) (Element.Sign s) (if_symbol c o)
sign_found c cs rest s e None is =
    let size : length (symbol_text s) ≡ suc (length cs) = rw (← e) (length-map (c ∷ cs) (λ c. c.code)) in
    let none : symbol_len (symbol_at (c ∷ cs ++ rest)) ≡ 0 = rw is refl in
    let h = symbol_covers s (c ∷ cs) rest e in absurd (omega arith)
sign_found c cs rest s e (Some t) is = by (nat_lt (length (c ∷ cs)) (length (symbol_text t))) refl
  where
    size : length (symbol_text s) ≡ length (c ∷ cs)
    size = rw (← e) (length-map (c ∷ cs) (λ c. c.code))

    by : (b : Bool) → nat_lt (length (c ∷ cs)) (length (symbol_text t)) ≡ b → Covers (c ∷ cs) (Element.Sign s) (cut.Symbol t (length (symbol_text t)))
    by true less = Covers.shorter refl refl (ltb-true (length (c ∷ cs)) (length (symbol_text t)) less)
    by false more =
        let same : t ≡ s = one_symbol s t (c ∷ cs) rest e is (omega (arith, size, ltb-false (length (c ∷ cs)) (length (symbol_text t)) more)) in
        let P : Symbol → Type 0 = λ t. Covers (c ∷ cs) (Element.Sign s) (cut.Symbol t (length (symbol_text t))) in
        subst P (sym same) (Covers.same (ap (λ n. Some n) size) IsOf.sign)

slash_line : (cs : List Character) → begins_with 47 cs ≡ true → 1 ≤ line_run cs
slash_line [] e = absurd (true≢false (sym e))
slash_line (d ∷ ds) e = rw (eqb-true d.code 47 e) (omega arith)

-- what the sign's characters are, beside those of other kinds
record IsSign (c : Character) (cs rest : List Character) : Type 0 where
  space : is_space c.code ≡ false
  name : starts_name c.code ≡ false
  digit : is_digit_below 10 c.code ≡ false
  quote : is_quote c.code ≡ false
  point : ((c.code == 46) && begins_with_digit 10 (cs ++ rest)) ≡ false
  line : ((c.code == 47) && begins_with 47 (cs ++ rest)) ≡ true → length cs ≡ 0
  comment : ((c.code == 47) && begins_with 42 (cs ++ rest)) ≡ false

sign_covered : (file_end : ℕ) (c : Character) (cs rest : List Character) (s : Symbol) → map (λ c. c.code) (c ∷ cs) ≡ symbol_text s → IsSign c cs rest →
    Covers (c ∷ cs) (Element.Sign s) (cut_at file_end c (cs ++ rest))
unfolding cut_at
sign_covered file_end c cs rest s e is =
    let front = c ∷ cs in
    let text = cs ++ rest in
    let sign = Element.Sign s in
    passed front sign (is_space c.code) _ _ is.space (passed front sign (starts_name c.code) _ _ is.name
    (passed front sign (is_digit_below 10 c.code) _ _ is.digit (passed front sign ((c.code == 46) && begins_with_digit 10 text) _ _ is.point
    (passed front sign ((c.code == 34) || (c.code == 39)) _ _ is.quote (either front sign ((c.code == 47) && begins_with 47 text) _ _
    (λ h. let few = is.line h in let one = slash_line text (and_parts (c.code == 47) _ h).1 in Covers.shorter refl refl (omega arith))
    (λ _. passed front sign ((c.code == 47) && begins_with 42 text) _ _ is.comment (sign_found c cs rest s e (symbol_at (c ∷ text)) refl)))))))

no_and : (a b : Bool) → b ≡ false → (a && b) ≡ false
no_and true b e = e
no_and false b e = refl

is_sign : (c : Character) (cs rest : List Character) (s : Symbol) → map (λ c. c.code) (c ∷ cs) ≡ symbol_text s → opens_other (c ∷ cs) rest ≡ false → IsSign c cs rest
is_sign c cs rest s e alone =
    let plain : is_plain (map (λ c. c.code) (c ∷ cs)) ≡ true = subst (λ codes. is_plain codes ≡ true) (sym e) (symbols_plain s) in
    let second = and_parts _ (is_second_plain (map (λ c. c.code) cs)) plain in
    let quote = and_parts _ (not ((c.code == 34) || (c.code == 39))) second.0 in
    let digit = and_parts _ (not (is_digit_below 10 c.code)) quote.0 in
    let name = and_parts _ (not (is_ascii_alphabetic c.code || (c.code == 95) || (c.code == 36))) digit.0 in
    let ascii = and_parts (nat_lt c.code 128) (not (is_space c.code)) name.0 in
    let other = behind cs second.1 alone in
    record {
      space = not-true _ ascii.1;
      name = ascii_starts c.code (ltb-true c.code 128 ascii.0) ∙ not-true _ name.1;
      digit = not-true _ digit.1;
      quote = not-true _ quote.1;
      point = other.0;
      line = other.1;
      comment = other.2;
    }
  where
    behind : (cs : List Character) → is_second_plain (map (λ c. c.code) cs) ≡ true → opens_other (c ∷ cs) rest ≡ false →
        (((c.code == 46) && begins_with_digit 10 (cs ++ rest)) ≡ false) × (((c.code == 47) && begins_with 47 (cs ++ rest)) ≡ true → length cs ≡ 0) ×
        (((c.code == 47) && begins_with 42 (cs ++ rest)) ≡ false)
    behind [] plain alone = let h = or_parts _ _ alone in (h.1, λ _. refl, h.0)
    behind (d ∷ ds) plain alone =
        let digit = and_parts _ (not (is_digit_below 10 d.code)) plain in
        let star = and_parts (not (d.code == 47)) (not (d.code == 42)) digit.0 in (
          no_and (c.code == 46) _ (not-true _ digit.1),
          λ h. absurd (true≢false (sym (and_parts (c.code == 47) (d.code == 47) h).1 ∙ not-true _ star.0)),
          no_and (c.code == 47) _ (not-true _ star.1),
        )

-- ---- the whole

-- what is cut at the front of a text
abbrev pub CoversAt : ℕ → List Character → Element → List Character → Type 0
CoversAt file_end front e [] = ⊥
CoversAt file_end front e (c ∷ cs) = Covers front e (cut_at file_end c cs)

sign_front_covered : (file_end : ℕ) (front rest : List Character) (s : Symbol) → map (λ c. c.code) front ≡ symbol_text s → opens_other front rest ≡ false →
    CoversAt file_end front (Element.Sign s) (front ++ rest)
sign_front_covered file_end [] rest s e alone = absurd (true≢false (sym (symbols_plain s) ∙ rw (← e) refl))
sign_front_covered file_end (c ∷ cs) rest s e alone = sign_covered file_end c cs rest s e (is_sign c cs rest s e alone)

pub front_covered : (file_end : ℕ) (e : Element) (front rest : List Character) → IsElement e front rest → CoversAt file_end front e (front ++ rest)
front_covered file_end _ _ rest (IsElement.white_space {c = c} {cs = cs} h) = space_covered file_end c cs rest h
front_covered file_end _ _ rest (IsElement.line_comment {first = c} {second = d} {cs = cs} first second h) = line_covered file_end c d cs rest first second h
front_covered file_end _ _ rest (IsElement.comment {slash = c} {star = d} {cs = cs} slash star h) = comment_covered file_end c d cs rest slash star h
front_covered file_end _ _ rest (IsElement.word {c = c} {cs = cs} starts h) = word_covered file_end c cs rest starts h
front_covered file_end _ front rest (IsElement.sign s e alone) = sign_front_covered file_end front rest s e alone
front_covered file_end _ _ rest (IsElement.integer {c = c} {cs = cs} {i = i} digit is small ends whole) =
    integer_covered file_end c cs rest i digit (All-tail (λ d. continues_name d.code ≡ true) c cs (number_continues (c ∷ cs) i is)) ends (before (c ∷ cs) rest i is small whole)
front_covered file_end _ _ rest (IsElement.char_literal {quote = c} {cs = cs} {unit = unit} is h means) =
    literal_covered file_end c cs rest (Element.Char unit) (rw is refl) (rw is h) (IsOf.char_literal (rw is refl) means)
front_covered file_end _ _ rest (IsElement.text_literal {quote = c} {cs = cs} {units = units} is h means) =
    literal_covered file_end c cs rest (Element.Text units) (rw is refl) (rw is h) (IsOf.text_literal (rw is refl) means)
