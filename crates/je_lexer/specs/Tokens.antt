-- JLS 3.5, 3.8 to 3.10: what token an input element is.
use Rattle.std.specs.Prelude.{◌≡◌, ℕ, ◌-◌, ◌^◌, nat_lt, ℤ, pos, ◌-ℤ◌, List, [], ◌∷◌, ◌++◌, length, Option, Some, None, if◌then◌else◌}
use Rattle.std.specs.Char.{encode_utf8}
use Rattle.std.proofs.Math.Utf8.{scalar}
use Rattle.je_base.specs.Names.{interned, number_of}
use Rattle.je_base.specs.declared.span.NameId.{NameId}
use Rattle.je_decode.specs.declared.character.Character.{Character}
use Rattle.je_token.specs.declared.keyword.Keyword.{Keyword}
use Rattle.je_token.specs.declared.symbol.Symbol.{Symbol}
use Rattle.je_token.specs.declared.token.Token.{Token}
use Rattle.je_token.specs.declared.token.TokenKind.{TokenKind}
use Rattle.je_token.specs.declared.token.TokenKind.TheVariants as kind
use Rattle.je_lexer.specs.Elements.{Element}
use Rattle.je_lexer.specs.Spans.{first_end, second_end, span_of}
use Rattle.je_lexer.specs.Words.{keyword_of}
use Rattle.je_lexer.specs.declared.numbers.Number.{Number}

unfoldable pub token : ℕ → TokenKind → NameId → ℤ → List Character → Token
token file kind name value front =
    record { kind = kind; span = span_of file front; text = name; value = value; first_end = first_end front; second_end = second_end front }

-- the number of the empty text
abbrev pub no_name : NameId
no_name = record { 0 = 0 }

-- the characters in UTF-8; a name's are scalar values
abbrev pub spelled : List Character → List ℕ
spelled [] = []
spelled (c ∷ cs) = (if scalar c.code then encode_utf8 c.code else []) ++ spelled cs

abbrev pub keyword_kind : Option Keyword → TokenKind
keyword_kind None = kind.Identifier
keyword_kind (Some k) = kind.Keyword k

unfoldable pub word_kind : List ℕ → TokenKind
word_kind text = keyword_kind (keyword_of text)

abbrev pub number_kind : Number → TokenKind
number_kind n = if n.long then kind.LongLiteral else kind.IntLiteral

-- decimal digits mean what they say, the others are two's complement
abbrev pub from_bits : ℕ → ℕ → ℤ
from_bits value bits = if nat_lt value (2 ^ (bits - 1)) then pos value else pos value -ℤ pos (2 ^ bits)

unfoldable pub number_value : Number → ℤ
number_value n = if n.decimal then pos n.value else if n.long then from_bits n.value 64 else from_bits n.value 32

-- The element with these characters is this token, and then there are these names and texts.
pub data Gives (file : ℕ) (names texts : List (List ℕ)) : Element → List Character → Token → List (List ℕ) → List (List ℕ) → Type 0 where
  word : {front : List Character} {id : NameId} → number_of (interned names (spelled front)) (spelled front) ≡ Some id →
      Gives file names texts Element.Word front (token file (word_kind (spelled front)) id (pos 0) front) (interned names (spelled front)) texts
  sign : {s : Symbol} {front : List Character} → Gives file names texts (Element.Sign s) front (token file (kind.Symbol s) no_name (pos 0) front) names texts
  integer : {i : Number} {front : List Character} →
      Gives file names texts (Element.Integer i) front (token file (number_kind i) no_name (number_value i) front) names texts
  char_literal : {unit : ℕ} {front : List Character} → Gives file names texts (Element.Char unit) front (token file kind.CharLiteral no_name (pos unit) front) names texts
  text_literal : {units : List ℕ} {front : List Character} →
      Gives file names texts (Element.Text units) front (token file kind.TextLiteral no_name (pos (length texts)) front) names (texts ++ units ∷ [])
