-- Bytes have tokens or a fault.
use Rattle.std.proofs.Common.{◌≡◌, ◌⊎◌, ℕ, zero, suc, ◌+◌, ◌-◌, ◌*◌, ◌<◌, ◌≤◌, Bool, true, false, ◌==◌, nat_lt, nat_le, List, [], ◌∷◌, ◌++◌, length, take, Option, Some, None, option_map, if◌then◌else◌, IsUtf8, chars, refl, sym, ap, subst, ◌∙◌, arith, inl, inr, ⊎_elim, true≢false, take_all}
use Rattle.std.specs.Option.{IfSome}
use Rattle.std.specs.Char.{digit_value}
use Rattle.std.specs.Str.{IsValidUpTo, is_utf8}
use Rattle.std.proofs.lemmas.Bool.Decides.{nat_tests}
use Rattle.std.proofs.lemmas.Str.{IsUtf8-from_is_utf8, is_utf8-from_IsUtf8}
use Rattle.je_base.proofs.Numbering.{number-push}
use Rattle.je_base.specs.Names.{interned, interned_by, place_of, number_of, name_at}
use Rattle.je_base.specs.declared.span.NameId.{NameId}
use Rattle.je_decode.specs.Decoding.{Decodes, without_mark}
use Rattle.je_decode.specs.Escapes.{Escape, Piece, is_hexadecimal, is_high, behind_marks, one_digit, and_digit, escape, opens, if_low, is_low, low_half, with_low, paired, piece, turns, Translates, Malformed}
use Rattle.je_decode.specs.Places.{placed}
use Rattle.je_decode.specs.declared.character.Character.{Character}
use Rattle.je_token.specs.declared.token.Token.{Token}
use Rattle.je_lexer.specs.Classes.{begins_with}
use Rattle.je_lexer.specs.Elements.{Element, IsNext, BeginsNone, body}
use Rattle.je_lexer.specs.Faults.{IsWrong}
use Rattle.je_lexer.specs.Lexing.{Lexes, Fails, end_token, HasTokens, HasFault}
use Rattle.je_lexer.specs.Texts.{TextPiece, units_of, one_unit, is_octal, simple_escape, and_octal, and_octals, with_rest, escape_piece, text_piece, Means, HasBadBackslash}
use Rattle.je_lexer.specs.Tokens.{Gives, spelled}
use Rattle.je_lexer.specs.declared.cutting.Cut.{Cut}
use Rattle.je_lexer.specs.declared.cutting.Cut.TheVariants as cut
use Rattle.je_lexer.specs.declared.fault.FaultKind.{FaultKind}
use Rattle.je_lexer.specs.way.Cutting.{cut_at, cut_len, front_of, IsOf, IsBad}
use Rattle.je_lexer.proofs.Next.{next_from_cut, none_from_cut, wrong_from_cut, next_shorter, element_some}

-- what is found ends inside the text
abbrev Ends : Option Escape → ℕ → Type 0
Ends o n = IfSome o (λ e. length e.rest ≤ n)

ends_less : (o : Option Escape) (m n : ℕ) → m ≤ n → Ends o m → Ends o n
ends_less None m n less h = tt
ends_less (Some e) m n less h = omega arith

marks_end : (cs : List Character) → length (behind_marks cs) ≤ length cs
marks_end [] = omega arith
marks_end (c ∷ cs) = by (c.code == 117) (marks_end cs)
  where
    by : (b : Bool) → length (behind_marks cs) ≤ length cs → length (if b then behind_marks cs else c ∷ cs) ≤ length (c ∷ cs)
    by true h = omega arith
    by false h = omega arith

digit_ends : (unit : ℕ) (cs : List Character) → Ends (one_digit unit cs) (length cs)
unfolding one_digit
digit_ends unit [] = tt
digit_ends unit (c ∷ cs) = by (is_hexadecimal c.code)
  where
    by : (b : Bool) → Ends (if b then Some (record { unit = 16 * unit + digit_value c.code; end = c.end; rest = cs }) else None) (length (c ∷ cs))
    by true = omega arith
    by false = tt

and_digit_ends : (o : Option Escape) (n : ℕ) → Ends o n → Ends (and_digit o) n
unfolding and_digit
and_digit_ends None n h = tt
and_digit_ends (Some e) n h = ends_less (one_digit e.unit e.rest) (length e.rest) n h (digit_ends e.unit e.rest)

escape_ends : (cs : List Character) → Ends (escape cs) (length cs)
unfolding escape
escape_ends cs =
    let n = length cs in
    and_digit_ends _ n (and_digit_ends _ n (and_digit_ends _ n (ends_less (one_digit 0 (behind_marks cs)) (length (behind_marks cs)) n (marks_end cs) (digit_ends 0 (behind_marks cs)))))

low_ends : (o : Option Escape) (n : ℕ) → Ends o n → Ends (if_low o) n
low_ends None n h = tt
low_ends (Some e) n h = by (is_low e.unit)
  where
    by : (b : Bool) → Ends (if b then Some e else None) n
    by true = h
    by false = tt

low_half_ends : (text : List Character) → Ends (low_half text) (length text)
unfolding low_half
low_half_ends [] = tt
low_half_ends (c ∷ cs) = by (opens false c cs)
  where
    by : (b : Bool) → Ends (if b then if_low (escape cs) else None) (length (c ∷ cs))
    by true = ends_less (if_low (escape cs)) (length cs) (length (c ∷ cs)) (omega arith) (low_ends (escape cs) (length cs) (escape_ends cs))
    by false = tt

paired_ends : (start : ℕ) (e : Escape) → length (paired start e).rest ≤ length e.rest
unfolding paired
paired_ends start e = by (is_high e.unit)
  where
    with : (o : Option Escape) → Ends o (length e.rest) → length (with_low start e o).rest ≤ length e.rest
    with None h = omega arith
    with (Some l) h = h

    by : (b : Bool) → length (with_low start e (if b then low_half e.rest else None)).rest ≤ length e.rest
    by true = with (low_half e.rest) (low_half_ends e.rest)
    by false = with None tt

piece_ends : (odd : Bool) (c : Character) (cs : List Character) → IfSome (piece odd c cs) (λ p. length p.rest ≤ length cs)
unfolding piece
piece_ends odd c cs = by (opens odd c cs)
  where
    mapped : (o : Option Escape) → Ends o (length cs) → IfSome (option_map (paired c.start) o) (λ p. length p.rest ≤ length cs)
    mapped None h = tt
    mapped (Some e) h = let k = paired_ends c.start e in omega arith

    by : (b : Bool) → IfSome (if b then option_map (paired c.start) (escape cs) else Some (record { character = c; rest = cs })) (λ p. length p.rest ≤ length cs)
    by true = mapped (escape cs) (escape_ends cs)
    by false = omega arith

-- a text is translated, or an escape in it is malformed
translated : (n : ℕ) (odd : Bool) (text : List Character) → length text < n → ((ds : List Character) × Translates odd text ds) ⊎ ((bad : Character) × Malformed odd text bad)
translated zero odd text l = absurd (omega arith)
translated (suc n) odd [] l = inl ([], Translates.done)
translated (suc n) odd (c ∷ cs) l = by (translated n) (piece odd c cs) refl (piece_ends odd c cs)
  where
    by : ((odd : Bool) (text : List Character) → length text < n → ((ds : List Character) × Translates odd text ds) ⊎ ((bad : Character) × Malformed odd text bad)) →
        (o : Option Piece) → piece odd c cs ≡ o → IfSome o (λ p. length p.rest ≤ length cs) → ((ds : List Character) × Translates odd (c ∷ cs) ds) ⊎ ((bad : Character) × Malformed odd (c ∷ cs) bad)
    by shorter None e ends = inr (c, Malformed.here e)
    by shorter (Some p) e ends = ⊎_elim (λ h. inl (p.character ∷ h.0, Translates.more e h.1)) (λ h. inr (h.0, Malformed.later e h.1)) (shorter (turns odd c cs) p.rest (omega arith))

-- ---- literals

either_ends : (b : Bool) (p q : TextPiece) (n : ℕ) → length p.rest ≤ n → length q.rest ≤ n → length (if◌then◌else◌ {A = TextPiece} b p q).rest ≤ n
either_ends true p q n h k = h
either_ends false p q n h k = k

octal_ends : (value : ℕ) (text : List Character) → length (and_octal value text).rest ≤ length text
octal_ends value [] = omega arith
octal_ends value (c ∷ cs) =
    either_ends (is_octal c.code) (one_unit (8 * value + (c.code - 48)) cs) (one_unit value (c ∷ cs)) (length (c ∷ cs)) (omega arith) (omega arith)

octals_end : (value : ℕ) (text : List Character) → length (and_octals value text).rest ≤ length text
octals_end value [] = omega arith
octals_end value (c ∷ cs) =
    let more = 8 * value + (c.code - 48) in let h = octal_ends more cs in
    either_ends (is_octal c.code) (if nat_le value 3 then and_octal more cs else one_unit more cs) (one_unit value (c ∷ cs)) (length (c ∷ cs))
    (either_ends (nat_le value 3) (and_octal more cs) (one_unit more cs) (length (c ∷ cs)) (omega arith) (omega arith)) (omega arith)

escape_piece_ends : (cs : List Character) → IfSome (escape_piece cs) (λ p. length p.rest ≤ length cs)
unfolding escape_piece
escape_piece_ends [] = tt
escape_piece_ends (c ∷ cs) = by (is_octal c.code)
  where
    with : (o : Option ℕ) → IfSome (with_rest o cs) (λ p. length p.rest ≤ length (c ∷ cs))
    with None = tt
    with (Some unit) = omega arith

    by : (b : Bool) → IfSome (if b then Some (and_octals (c.code - 48) cs) else with_rest (simple_escape c.code) cs) (λ p. length p.rest ≤ length (c ∷ cs))
    by true = let h = octals_end (c.code - 48) cs in omega arith
    by false = with (simple_escape c.code)

text_piece_ends : (c : Character) (cs : List Character) → IfSome (text_piece c cs) (λ p. length p.rest ≤ length cs)
unfolding text_piece
text_piece_ends c cs = by (c.code == 92)
  where
    by : (b : Bool) → IfSome (if b then escape_piece cs else Some (record { units = units_of c.code; rest = cs })) (λ p. length p.rest ≤ length cs)
    by true = escape_piece_ends cs
    by false = omega arith

-- a literal means units, or a backslash in it begins no escape
meant : (n : ℕ) (text : List Character) → length text < n → ((units : List ℕ) × Means text units) ⊎ ((bad : Character) × HasBadBackslash text bad)
meant zero text l = absurd (omega arith)
meant (suc n) [] l = inl ([], Means.done)
meant (suc n) (c ∷ cs) l = by (meant n) (text_piece c cs) refl (text_piece_ends c cs)
  where
    by : ((text : List Character) → length text < n → ((units : List ℕ) × Means text units) ⊎ ((bad : Character) × HasBadBackslash text bad)) →
        (o : Option TextPiece) → text_piece c cs ≡ o → IfSome o (λ p. length p.rest ≤ length cs) → ((units : List ℕ) × Means (c ∷ cs) units) ⊎ ((bad : Character) × HasBadBackslash (c ∷ cs) bad)
    by shorter None e ends = inr (c, HasBadBackslash.here e)
    by shorter (Some p) e ends = ⊎_elim (λ h. inl (p.units ++ h.0, Means.more e h.1)) (λ h. inr (h.0, HasBadBackslash.later e h.1)) (shorter p.rest (omega arith))

-- ---- elements

-- what is cut is an element or none
data Found (k : Cut) (text : List Character) : Type 0 where
  Good : {n : ℕ} {e : Element} → cut_len k ≡ Some n → IsOf k (take n text) e → Found k text
  Bad : {kind : FaultKind} {start end : ℕ} → IsBad k (front_of (cut_len k) text) kind start end → Found k text

char_found : (n : ℕ) (text : List Character) (units : List ℕ) → begins_with 39 (take n text) ≡ true → Means (body (take n text)) units → Found (cut.Literal n) text
char_found n text [] quote means = Found.Bad (IsBad.no_unit quote means (λ one. absurd (omega arith)))
char_found n text (u ∷ []) quote means = Found.Good refl (IsOf.char_literal quote means)
char_found n text (u ∷ v ∷ us) quote means = Found.Bad (IsBad.no_unit quote means (λ one. absurd (omega arith)))

literal_found : (n : ℕ) (text : List Character) → ((units : List ℕ) × Means (body (take n text)) units) ⊎ ((bad : Character) × HasBadBackslash (body (take n text)) bad) →
    Found (cut.Literal n) text
literal_found n text (inr h) = Found.Bad (IsBad.bad_escape h.1)
literal_found n text (inl h) = by (begins_with 39 (take n text)) refl
  where
    by : (b : Bool) → begins_with 39 (take n text) ≡ b → Found (cut.Literal n) text
    by true e = char_found n text h.0 e h.1
    by false e = Found.Good refl (IsOf.text_literal e h.1)

found_cut : (k : Cut) (text : List Character) → Found k text
found_cut (cut.Blank n) text = Found.Good refl IsOf.blank
found_cut (cut.Word n) text = Found.Good refl IsOf.word
found_cut (cut.Symbol s n) text = Found.Good refl IsOf.sign
found_cut (cut.Number i n) text = Found.Good refl IsOf.integer
found_cut (cut.Literal n) text = literal_found n text (meant (suc (length (body (take n text)))) (body (take n text)) (omega arith))
found_cut (cut.Fault kind start end) text = Found.Bad IsBad.uncut

-- the next element of a text, or what stands there instead
data Front (file_end : ℕ) (text : List Character) : Type 0 where
  Begun : {e : Element} {front behind : List Character} → IsNext text e front behind → Front file_end text
  Wrong : {kind : FaultKind} {start end : ℕ} → BeginsNone text → IsWrong file_end text kind start end → Front file_end text

front_at : (file_end : ℕ) (c : Character) (cs : List Character) → Found (cut_at file_end c cs) (c ∷ cs) → Front file_end (c ∷ cs)
front_at file_end c cs (Found.Good {n = n} {e = e} len of) = Front.Begun (next_from_cut file_end c cs n e len of)
front_at file_end c cs (Found.Bad {kind = kind} {start = start} {end = end} bad) =
    Front.Wrong (none_from_cut file_end c cs kind start end bad) (wrong_from_cut file_end c cs kind start end bad)

front : (file_end : ℕ) (c : Character) (cs : List Character) → Front file_end (c ∷ cs)
front file_end c cs = front_at file_end c cs (found_cut (cut_at file_end c cs) (c ∷ cs))

pub next_or_none : (text : List Character) → ((e : Element) × (front : List Character) × (behind : List Character) × IsNext text e front behind) ⊎ BeginsNone text
next_or_none [] = inr nothing
  where
    nothing : BeginsNone []
    nothing e [] behind parts h = let some = element_some e [] behind h in absurd (omega arith)
    nothing e (c ∷ cs) behind parts h = absurd (cc)
next_or_none (c ∷ cs) = by (front 0 c cs)
  where
    by : Front 0 (c ∷ cs) → ((e : Element) × (ahead : List Character) × (behind : List Character) × IsNext (c ∷ cs) e ahead behind) ⊎ BeginsNone (c ∷ cs)
    by (Front.Begun {e = e} {front = ahead} {behind = behind} h) = inl (e, ahead, behind, h)
    by (Front.Wrong none wrong) = inr none

-- ---- tokens

found : (names : List (List ℕ)) (text : List ℕ) → (id : NameId) × (number_of (interned names text) text ≡ Some id)
found names text = by (place_of names text) refl
  where
    by : (o : Option ℕ) → place_of names text ≡ o → (id : NameId) × (number_of (interned_by o names text) text ≡ Some id)
    by None e = (name_at (length names), number-push names text e)
    by (Some n) e = (name_at n, ap (option_map name_at) e)

abbrev IsGiven : ℕ → List (List ℕ) → List (List ℕ) → Element → List Character → Type 0
IsGiven file names texts e front = (t : Token) × (names1 : List (List ℕ)) × (texts1 : List (List ℕ)) × Gives file names texts e front t names1 texts1

-- an element is blank or a token
given : (file : ℕ) (names texts : List (List ℕ)) (e : Element) (front : List Character) → (e ≡ Element.Blank) ⊎ IsGiven file names texts e front
given file names texts Element.Blank front = inl refl
given file names texts Element.Word front = inr (_, _, _, Gives.word (found names (spelled front)).1)
given file names texts (Element.Sign s) front = inr (_, _, _, Gives.sign)
given file names texts (Element.Integer i) front = inr (_, _, _, Gives.integer)
given file names texts (Element.Char unit) front = inr (_, _, _, Gives.char_literal)
given file names texts (Element.Text units) front = inr (_, _, _, Gives.text_literal)

-- ---- the whole

abbrev AreTokens : ℕ → List (List ℕ) → List (List ℕ) → List Character → Type 0
AreTokens file names texts text = (out : List Token) × (names1 : List (List ℕ)) × (texts1 : List (List ℕ)) × Lexes file names texts text out names1 texts1

abbrev AreFaulty : ℕ → List Character → Type 0
AreFaulty file_end text = (kind : FaultKind) × (start : ℕ) × (end : ℕ) × Fails file_end text kind start end

lexed : (n file file_end : ℕ) (names texts : List (List ℕ)) (text : List Character) → length text < n → AreTokens file names texts text ⊎ AreFaulty file_end text
lexed zero file file_end names texts text l = absurd (omega arith)
lexed (suc n) file file_end names texts [] l = inl ([], names, texts, Lexes.at_end)
lexed (suc n) file file_end names texts (c ∷ cs) l = by (lexed n file file_end) (front file_end c cs)
  where
    Shorter : Type 0
    Shorter = (names texts : List (List ℕ)) (text : List Character) → length text < n → AreTokens file names texts text ⊎ AreFaulty file_end text

    going : Shorter → (e : Element) (ahead behind : List Character) → IsNext (c ∷ cs) e ahead behind → (e ≡ Element.Blank) ⊎ IsGiven file names texts e ahead →
        AreTokens file names texts (c ∷ cs) ⊎ AreFaulty file_end (c ∷ cs)
    going shorter e ahead behind next (inl is) =
        let less = next_shorter (c ∷ cs) e ahead behind next in
        let blank : IsNext (c ∷ cs) Element.Blank ahead behind = rw is at next in
        ⊎_elim (λ h. inl (h.0, h.1, h.2, Lexes.blank blank h.3)) (λ h. inr (h.0, h.1, h.2, Fails.later next h.3)) (shorter names texts behind (omega arith))
    going shorter e ahead behind next (inr h) =
        let less = next_shorter (c ∷ cs) e ahead behind next in
        ⊎_elim (λ k. inl (h.0 ∷ k.0, k.1, k.2, Lexes.token next h.3 k.3)) (λ k. inr (k.0, k.1, k.2, Fails.later next k.3)) (shorter h.1 h.2 behind (omega arith))

    by : Shorter → Front file_end (c ∷ cs) → AreTokens file names texts (c ∷ cs) ⊎ AreFaulty file_end (c ∷ cs)
    by shorter (Front.Begun {e = e} {front = ahead} {behind = behind} next) = going shorter e ahead behind next (given file names texts e ahead)
    by shorter (Front.Wrong {kind = kind} {start = start} {end = end} none wrong) = inr (kind, start, end, Fails.here none wrong)

-- bytes are UTF-8, or stop being it at some byte
valid : (bs : List ℕ) (k : ℕ) → k < length bs → ((m : ℕ) → k < m → IsUtf8 (take m bs) → ⊥) → (at : ℕ) × IsValidUpTo bs at
valid bs zero short longest = (zero, record { short = short; front = ([], (refl, refl)); longest = longest })
valid bs (suc k) short longest = by (valid bs k (omega arith)) (is_utf8 (take (suc k) bs)) refl
  where
    by : (((m : ℕ) → k < m → IsUtf8 (take m bs) → ⊥) → (at : ℕ) × IsValidUpTo bs at) → (b : Bool) → is_utf8 (take (suc k) bs) ≡ b → (at : ℕ) × IsValidUpTo bs at
    by shorter true e = (suc k, record { short = short; front = IsUtf8-from_is_utf8 _ e; longest = longest })
    by shorter false e = shorter (λ m above u. at m above u (nat_lt (suc k) m) refl)
      where
        at : (m : ℕ) → k < m → IsUtf8 (take m bs) → (b : Bool) → nat_lt (suc k) m ≡ b → ⊥
        at m above u true past = longest m (grind (arith, nat_tests)) u
        at m above u false same = let one : m ≡ suc k = grind (arith, nat_tests) in true≢false (sym (is_utf8-from_IsUtf8 _ (subst (λ i. IsUtf8 (take i bs)) one u)) ∙ e)

utf8 : (bs : List ℕ) → IsUtf8 bs ⊎ ((at : ℕ) × IsValidUpTo bs at)
utf8 bs = by (is_utf8 bs) refl
  where
    none : (cs : List ℕ) → is_utf8 cs ≡ false → 0 < length cs
    none [] e = absurd (true≢false (sym (is_utf8-from_IsUtf8 [] ([], (refl, refl))) ∙ e))
    none (c ∷ cs) e = omega arith

    by : (b : Bool) → is_utf8 bs ≡ b → IsUtf8 bs ⊎ ((at : ℕ) × IsValidUpTo bs at)
    by true e = inl (IsUtf8-from_is_utf8 bs e)
    by false e =
        let some = none bs e in
        inr (valid bs (length bs - 1) (omega arith) (λ m above u. true≢false (sym (is_utf8-from_IsUtf8 bs (subst IsUtf8 (take_all m bs (omega arith)) u)) ∙ e)))

abbrev pub IsLexed : ℕ → List ℕ → Type 0
IsLexed file bytes = (list : List Token) × (names : List (List ℕ)) × (texts : List (List ℕ)) × HasTokens file bytes list names texts

abbrev pub IsFaulty : List ℕ → Type 0
IsFaulty bytes = (kind : FaultKind) × (start : ℕ) × (end : ℕ) × HasFault bytes kind start end

of_text : (file : ℕ) (bytes : List ℕ) (characters : List Character) → Decodes bytes characters →
    AreTokens file ([] ∷ []) [] characters ⊎ AreFaulty (length bytes) characters → IsLexed file bytes ⊎ IsFaulty bytes
of_text file bytes characters decoded (inl h) =
    inl (h.0 ++ end_token file (length bytes) ∷ [], h.1, h.2, record { characters = characters; decoded = decoded; list = h.0; lexed = h.3; ended = refl })
of_text file bytes characters decoded (inr h) = inr (h.0, h.1, h.2, HasFault.no_element characters decoded h.3)

of_characters : (file : ℕ) (bytes : List ℕ) → IsUtf8 bytes →
    ((ds : List Character) × Translates false (placed 0 (chars bytes)) ds) ⊎ ((bad : Character) × Malformed false (placed 0 (chars bytes)) bad) →
    IsLexed file bytes ⊎ IsFaulty bytes
of_characters file bytes well (inl h) =
    of_text file bytes (without_mark h.0) (record { utf8 = well; text = h.0; translates = h.1; kept = refl })
    (lexed (suc (length (without_mark h.0))) file (length bytes) ([] ∷ []) [] (without_mark h.0) (omega arith))
of_characters file bytes well (inr h) = inr (_, _, _, HasFault.malformed (record { utf8 = well; malformed = h.1 }))

pub total : (file : ℕ) (bytes : List ℕ) → IsLexed file bytes ⊎ IsFaulty bytes
total file bytes =
    ⊎_elim (λ well. of_characters file bytes well (translated (suc (length (placed 0 (chars bytes)))) false (placed 0 (chars bytes)) (omega arith)))
    (λ h. inr (_, _, _, HasFault.not_utf8 h.1)) (utf8 bytes)
