-- What makes what is cut a token.
use Rattle.std.proofs.Common.{◌≡◌, ◌≢◌, ℕ, true, false, List, [], ◌∷◌, ◌++◌, length, get_or, Some, ◌<◌, ℤ, pos, refl, arith}
use lib.Signed.{mag}
use mir.Syntax.{w128}
use mir.Val.{SFits, to_z, of_z}
use Rattle.std.proofs.lemmas.Int.{to_z-of_z}
use Rattle.je_base.specs.Names.{interned, number_of}
use Rattle.je_base.specs.declared.span.NameId.{NameId}
use Rattle.je_base.specs.declared.span.Span.{Span}
use Rattle.je_decode.specs.declared.character.Character.{Character}
use Rattle.je_token.specs.declared.symbol.Symbol.{Symbol}
use Rattle.je_token.specs.declared.token.Token.{Token}
use Rattle.je_token.specs.declared.token.TokenKind.TheVariants as kind
use Rattle.je_lexer.specs.Classes.{begins_with}
use Rattle.je_lexer.specs.Elements.{Element, body}
use Rattle.je_lexer.specs.Spans.{span_of}
use Rattle.je_lexer.specs.Texts.{Means}
use Rattle.je_lexer.specs.Tokens.{Gives, no_name, token, spelled, word_kind, number_kind, number_value}
use Rattle.je_lexer.specs.declared.cutting.Cut.{Cut}
use Rattle.je_lexer.specs.declared.cutting.Cut.TheVariants as cut
use Rattle.je_lexer.specs.declared.fault.FaultKind.{FaultKind}
use Rattle.je_lexer.specs.declared.fault.FaultKind.TheVariants as fault
use Rattle.je_lexer.specs.declared.fault.LexFault.{LexFault}
use Rattle.je_lexer.specs.declared.fault.LexFault.TheVariants as refusal
use Rattle.je_lexer.specs.declared.numbers.Number.{Number}
use Rattle.je_lexer.specs.way.Cutting.{IsOf, IsBad}
use Rattle.je_lexer.specs.way.Steps.{IsToken, IsNoPiece, IsBadBody}

pub word_gives : (file : ℕ) (names names1 texts : List (List ℕ)) (text : List ℕ) (n : ℕ) (front : List Character) (id : NameId) (t : Token) → text ≡ spelled front →
    names1 ≡ interned names text → number_of names1 text ≡ Some id → t ≡ token file (word_kind text) id (pos 0) front →
    IsToken file (cut.Word n) front names texts names1 texts t
word_gives file names names1 texts text n front id t spells kept found made =
    let first : names1 ≡ interned names (spelled front) = rw (← spells) kept in
    let second : t ≡ token file (word_kind (spelled front)) id (pos 0) front = rw (← spells) made in
    let third : number_of (interned names (spelled front)) (spelled front) ≡ Some id = rw (← spells, ← kept) found in
    record { element = Element.Word; is = IsOf.word; gives = rw (first, second) (Gives.word third) }

pub sign_gives : (file : ℕ) (names texts : List (List ℕ)) (c : Cut) (s : Symbol) (n : ℕ) (front : List Character) (t : Token) → c ≡ cut.Symbol s n →
    t ≡ token file (kind.Symbol s) no_name (pos 0) front → IsToken file c front names texts names texts t
sign_gives file names texts c s n front t is made = record { element = Element.Sign s; is = rw is IsOf.sign; gives = rw made Gives.sign }

pub number_gives : (file : ℕ) (names texts : List (List ℕ)) (c : Cut) (i : Number) (n : ℕ) (front : List Character) (t : Token) → c ≡ cut.Number i n →
    t ≡ token file (number_kind i) no_name (number_value i) front → IsToken file c front names texts names texts t
number_gives file names texts c i n front t is made = record { element = Element.Integer i; is = rw is IsOf.integer; gives = rw made Gives.integer }

only : (units : List ℕ) → length units ≡ 1 → units ≡ get_or units 0 0 ∷ []
only [] one = absurd (omega arith)
only (u ∷ []) one = refl
only (u ∷ v ∷ us) one = absurd (omega arith)

pub char_gives : (file : ℕ) (names texts : List (List ℕ)) (n : ℕ) (front : List Character) (units : List ℕ) (t : Token) → begins_with 39 front ≡ true →
    Means (body front) units → length units ≡ 1 → t ≡ token file kind.CharLiteral no_name (pos (get_or units 0 0)) front →
    IsToken file (cut.Literal n) front names texts names texts t
char_gives file names texts n front units t quote means one made =
    let whole = only units one in
    let exact : Means (body front) (get_or units 0 0 ∷ []) = rw (← whole) means in
    record { element = Element.Char (get_or units 0 0); is = IsOf.char_literal quote exact; gives = rw made Gives.char_literal }

pub text_gives : (file : ℕ) (names texts : List (List ℕ)) (n : ℕ) (front : List Character) (units : List ℕ) (t : Token) → begins_with 39 front ≡ false →
    Means (body front) units → t ≡ token file kind.TextLiteral no_name (pos (length texts)) front →
    IsToken file (cut.Literal n) front names texts names (texts ++ units ∷ []) t
text_gives file names texts n front units t quote means made =
    record { element = Element.Text units; is = IsOf.text_literal quote means; gives = rw made Gives.text_literal }

pub blank_gives : (c : Cut) (front : List Character) (n : ℕ) → c ≡ cut.Blank n → IsOf c front Element.Blank
blank_gives c front n is = rw is IsOf.blank

pub fault_at : (c : Cut) (front : List Character) (k : FaultKind) (start end : ℕ) → c ≡ cut.Fault k start end → IsBad c front k start end
fault_at c front k start end is = rw is IsBad.uncut

pub no_unit_at : (file n : ℕ) (front : List Character) (units : List ℕ) (span : Span) → begins_with 39 front ≡ true → Means (body front) units → length units ≢ 1 →
    span ≡ span_of file front → (span.file ≡ file) × IsBad (cut.Literal n) front fault.BadLiteral span.start span.end
no_unit_at file n front units span quote means many is = rw is (refl, IsBad.no_unit quote means many)

pub body_fails : (file n : ℕ) (front : List Character) (e : LexFault) → IsBadBody file front e → IsNoPiece file (cut.Literal n) front e
body_fails file n front refusal.Memory h = tt
body_fails file n front (refusal.At k span) h = (h.0, rw (h.1, h.2.2, h.2.3) (IsBad.bad_escape h.2.1))

-- a number that its type holds is passed as it is
pub passed : (z : ℤ) → mag z < 170141183460469231731687303715884105728 → to_z w128 (of_z w128 z) ≡ z
passed z h = let fits : SFits w128 z = record { sfits = h } in to_z-of_z w128 z fits
