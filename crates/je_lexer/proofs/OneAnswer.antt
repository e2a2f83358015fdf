-- Bytes have one list of tokens at most, one fault at most, and not both.
use Rattle.std.proofs.Common.{◌≡◌, ℕ, ◌+◌, ◌∙◌, false, List, [], ◌∷◌, length, refl, sym, ap, arith}
use Rattle.std.specs.Str.{chars}
use Rattle.std.proofs.lemmas.Str.{utf8_valid_len-IsValidUpTo}
use Rattle.je_base.specs.Names.{interned, number_of}
use Rattle.je_decode.specs.Places.{placed}
use Rattle.je_decode.specs.declared.character.Character.{Character}
use Rattle.je_token.specs.declared.token.Token.{Token}
use Rattle.je_lexer.specs.Elements.{Element, IsNext}
use Rattle.je_lexer.specs.Lexing.{Lexes, Fails, HasTokens, HasFault}
use Rattle.je_lexer.specs.Tokens.{Gives, spelled}
use Rattle.je_lexer.specs.declared.fault.FaultKind.{FaultKind}
use Rattle.je_lexer.proofs.Decodings.{translated_is_well, one_malformed, invalid, one_decoding}
use Rattle.je_lexer.proofs.Meanings.{same_some}
use Rattle.je_lexer.proofs.Next.{one_next, next_shorter}
use Rattle.je_lexer.proofs.OneWrong.{AreSame, one_wrong, wrong_some}

-- ---- tokens

blank_is_no_token : (file : ℕ) (names texts names1 texts1 : List (List ℕ)) (e : Element) (front : List Character) (t : Token) → e ≡ Element.Blank →
    Gives file names texts e front t names1 texts1 → ⊥
blank_is_no_token file names texts names1 texts1 _ front t e (Gives.word found) = absurd (cc)
blank_is_no_token file names texts names1 texts1 _ front t e Gives.sign = absurd (cc)
blank_is_no_token file names texts names1 texts1 _ front t e Gives.integer = absurd (cc)
blank_is_no_token file names texts names1 texts1 _ front t e Gives.char_literal = absurd (cc)
blank_is_no_token file names texts names1 texts1 _ front t e Gives.text_literal = absurd (cc)

one_token : (file : ℕ) (names texts names1 texts1 names2 texts2 : List (List ℕ)) (e : Element) (front : List Character) (t t1 : Token) →
    Gives file names texts e front t names1 texts1 → Gives file names texts e front t1 names2 texts2 → (t ≡ t1) × (names1 ≡ names2) × (texts1 ≡ texts2)
one_token file names texts _ _ _ _ _ front _ _ (Gives.word {id = i} found) (Gives.word {id = j} found') =
    let text = spelled front in
    let same : i ≡ j = same_some (number_of (interned names text) text) i j found found' in (rw same refl, refl, refl)
one_token file names texts _ _ _ _ _ front _ _ Gives.sign Gives.sign = (refl, refl, refl)
one_token file names texts _ _ _ _ _ front _ _ Gives.integer Gives.integer = (refl, refl, refl)
one_token file names texts _ _ _ _ _ front _ _ Gives.char_literal Gives.char_literal = (refl, refl, refl)
one_token file names texts _ _ _ _ _ front _ _ Gives.text_literal Gives.text_literal = (refl, refl, refl)

at_end_is_last : (e : Element) (front behind : List Character) → IsNext [] e front behind → ⊥
at_end_is_last e front behind next = let short = next_shorter [] e front behind next in absurd (omega arith)

one_lexing : (file : ℕ) (names texts names1 texts1 names2 texts2 : List (List ℕ)) (text : List Character) (out out1 : List Token) →
    Lexes file names texts text out names1 texts1 → Lexes file names texts text out1 names2 texts2 → (out ≡ out1) × (names1 ≡ names2) × (texts1 ≡ texts2)
one_lexing file names texts _ _ _ _ _ _ _ Lexes.at_end Lexes.at_end = (refl, refl, refl)
one_lexing file names texts _ _ _ _ _ _ _ Lexes.at_end (Lexes.blank {front = f} {behind = b} next more) = absurd (at_end_is_last Element.Blank f b next)
one_lexing file names texts _ _ _ _ _ _ _ Lexes.at_end (Lexes.token {front = f} {behind = b} {e = e} next given more) = absurd (at_end_is_last e f b next)
one_lexing file names texts _ _ _ _ _ _ _ (Lexes.blank {front = f} {behind = b} next more) Lexes.at_end = absurd (at_end_is_last Element.Blank f b next)
one_lexing file names texts names1 texts1 names2 texts2 text out out1 (Lexes.blank {front = f} {behind = b} next more) (Lexes.blank {front = g} {behind = d} next' more') =
    let same = one_next text Element.Blank Element.Blank f b g d next next' in
    one_lexing file names texts names1 texts1 names2 texts2 b out out1 more (rw same.2 more')
one_lexing file names texts _ _ _ _ text _ _ (Lexes.blank {front = f} {behind = b} next more) (Lexes.token {front = g} {behind = d} {e = e} {t = t} next' given' more') =
    let same = one_next text Element.Blank e f b g d next next' in
    absurd (blank_is_no_token file names texts _ _ e g t (sym same.0) given')
one_lexing file names texts _ _ _ _ _ _ _ (Lexes.token {front = f} {behind = b} {e = e} next given more) Lexes.at_end = absurd (at_end_is_last e f b next)
one_lexing file names texts _ _ _ _ text _ _ (Lexes.token {front = f} {behind = b} {e = e} {t = t} next given more) (Lexes.blank {front = g} {behind = d} next' more') =
    let same = one_next text e Element.Blank f b g d next next' in
    absurd (blank_is_no_token file names texts _ _ e f t same.0 given)
one_lexing file names texts names2 texts2 names4 texts4 text _ _
    (Lexes.token {names1 = names1} {texts1 = texts1} {front = f} {behind = b} {e = e} {t = t} {out = out} next given more)
    (Lexes.token {names1 = names3} {texts1 = texts3} {front = g} {behind = d} {e = e1} {t = t1} {out = out1} next' given' more') =
    let same = one_next text e e1 f b g d next next' in
    let other : Gives file names texts e f t1 names3 texts3 = rw (same.0, same.1) given' in
    let first = one_token file names texts names1 texts1 names3 texts3 e f t t1 given other in
    let behind : Lexes file names1 texts1 b out1 names4 texts4 = rw (same.2, first.1, first.2) more' in
    let rest = one_lexing file names1 texts1 names2 texts2 names4 texts4 b out out1 more behind in
    (rw (first.0, rest.0) refl, rest.1, rest.2)

-- ---- faults

one_failure : (file_end : ℕ) (text : List Character) (kind kind1 : FaultKind) (start end start1 end1 : ℕ) → Fails file_end text kind start end →
    Fails file_end text kind1 start1 end1 → AreSame kind kind1 start end start1 end1
one_failure file_end text kind kind1 start end start1 end1 (Fails.here none wrong) (Fails.here none' wrong') =
    one_wrong file_end text kind kind1 start end start1 end1 wrong wrong'
one_failure file_end text kind kind1 start end start1 end1 (Fails.here none wrong) (Fails.later {front = f} {behind = b} {e = e} next worse) =
    absurd (none e f b next.parts next.element)
one_failure file_end text kind kind1 start end start1 end1 (Fails.later {front = f} {behind = b} {e = e} next worse) (Fails.here none wrong) =
    absurd (none e f b next.parts next.element)
one_failure file_end text kind kind1 start end start1 end1 (Fails.later {front = f} {behind = b} {e = e} next worse) (Fails.later {front = g} {behind = d} {e = e1} next' worse') =
    let same = one_next text e e1 f b g d next next' in
    one_failure file_end b kind kind1 start end start1 end1 worse (rw same.2 worse')

lexed_is_well : (file file_end : ℕ) (names texts names1 texts1 : List (List ℕ)) (text : List Character) (out : List Token) (kind : FaultKind) (start end : ℕ) →
    Lexes file names texts text out names1 texts1 → Fails file_end text kind start end → ⊥
lexed_is_well file file_end _ _ _ _ _ _ kind start end Lexes.at_end (Fails.here none wrong) = wrong_some file_end kind start end wrong
lexed_is_well file file_end _ _ _ _ _ _ kind start end Lexes.at_end (Fails.later {front = f} {behind = b} {e = e} next worse) = at_end_is_last e f b next
lexed_is_well file file_end _ _ _ _ _ _ kind start end (Lexes.blank {front = f} {behind = b} next more) (Fails.here none wrong) =
    none Element.Blank f b next.parts next.element
lexed_is_well file file_end names texts names1 texts1 text out kind start end (Lexes.blank {front = f} {behind = b} next more) (Fails.later {front = g} {behind = d} {e = e} next' worse) =
    let same = one_next text Element.Blank e f b g d next next' in
    lexed_is_well file file_end names texts names1 texts1 b out kind start end more (rw same.2 worse)
lexed_is_well file file_end _ _ _ _ _ _ kind start end (Lexes.token {front = f} {behind = b} {e = e} next given more) (Fails.here none wrong) =
    none e f b next.parts next.element
lexed_is_well file file_end names texts names1 texts1 text _ kind start end (Lexes.token {names1 = names2} {texts1 = texts2} {front = f} {behind = b} {e = e} {out = out} next given more)
    (Fails.later {front = g} {behind = d} {e = e1} next' worse) =
    let same = one_next text e e1 f b g d next next' in
    lexed_is_well file file_end names2 texts2 names1 texts1 b out kind start end more (rw same.2 worse)

-- ---- the whole

pub one_tokens : (file : ℕ) (bytes : List ℕ) (list list1 : List Token) (names texts names1 texts1 : List (List ℕ)) → HasTokens file bytes list names texts →
    HasTokens file bytes list1 names1 texts1 → (list ≡ list1) × (names ≡ names1) × (texts ≡ texts1)
one_tokens file bytes list list1 names texts names1 texts1 h k =
    let same = one_decoding bytes h.characters k.characters h.decoded k.decoded in
    let other : Lexes file ([] ∷ []) [] h.characters k.list names1 texts1 = rw same k.lexed in
    let one = one_lexing file ([] ∷ []) [] names texts names1 texts1 h.characters h.list k.list h.lexed other in
    (rw (h.ended, k.ended, one.0) refl, one.1, one.2)

pub one_fault : (bytes : List ℕ) (kind kind1 : FaultKind) (start end start1 end1 : ℕ) → HasFault bytes kind start end →
    HasFault bytes kind1 start1 end1 → AreSame kind kind1 start end start1 end1
one_fault bytes _ _ _ _ _ _ (HasFault.not_utf8 {at = a} short) (HasFault.not_utf8 {at = b} short') =
    let same : a ≡ b = sym (utf8_valid_len-IsValidUpTo bytes a short) ∙ utf8_valid_len-IsValidUpTo bytes b short' in (refl, same, ap (λ i. i + 1) same)
one_fault bytes _ _ _ _ _ _ (HasFault.not_utf8 {at = a} short) (HasFault.malformed worse') = absurd (invalid bytes a short worse'.utf8)
one_fault bytes _ _ _ _ _ _ (HasFault.not_utf8 {at = a} short) (HasFault.no_element characters' decoded' worse') = absurd (invalid bytes a short decoded'.utf8)
one_fault bytes _ _ _ _ _ _ (HasFault.malformed worse) (HasFault.not_utf8 {at = b} short') = absurd (invalid bytes b short' worse.utf8)
one_fault bytes _ _ _ _ _ _ (HasFault.malformed {bad = a} worse) (HasFault.malformed {bad = b} worse') =
    let same = one_malformed false (placed 0 (chars bytes)) a b worse.malformed worse'.malformed in
    (refl, ap (λ (c : Character). c.start) same, ap (λ (c : Character). c.end) same)
one_fault bytes _ _ _ _ _ _ (HasFault.malformed {bad = a} worse) (HasFault.no_element characters' decoded' worse') =
    absurd (translated_is_well false (placed 0 (chars bytes)) decoded'.text a decoded'.translates worse.malformed)
one_fault bytes _ _ _ _ _ _ (HasFault.no_element characters decoded worse) (HasFault.not_utf8 {at = b} short') = absurd (invalid bytes b short' decoded.utf8)
one_fault bytes _ _ _ _ _ _ (HasFault.no_element characters decoded worse) (HasFault.malformed {bad = b} worse') =
    absurd (translated_is_well false (placed 0 (chars bytes)) decoded.text b decoded.translates worse'.malformed)
one_fault bytes kind kind1 start end start1 end1 (HasFault.no_element characters decoded worse) (HasFault.no_element characters' decoded' worse') =
    let same = one_decoding bytes characters characters' decoded decoded' in
    one_failure (length bytes) characters kind kind1 start end start1 end1 worse (rw same worse')

pub apart : (file : ℕ) (bytes : List ℕ) (list : List Token) (names texts : List (List ℕ)) (kind : FaultKind) (start end : ℕ) → HasTokens file bytes list names texts →
    HasFault bytes kind start end → ⊥
apart file bytes list names texts _ _ _ is (HasFault.not_utf8 {at = at} short) = invalid bytes at short is.decoded.utf8
apart file bytes list names texts _ _ _ is (HasFault.malformed {bad = bad} worse) =
    translated_is_well false (placed 0 (chars bytes)) is.decoded.text bad is.decoded.translates worse.malformed
apart file bytes list names texts kind start end is (HasFault.no_element characters decoded worse) =
    let same = one_decoding bytes characters is.characters decoded is.decoded in
    lexed_is_well file (length bytes) ([] ∷ []) [] names texts is.characters is.list kind start end is.lexed (rw (← same) worse)
