-- JLS 3.2 and 3.5: the tokens of a source file. Its characters are a row of input elements, each the longest that begins where
-- it stands, and the tokens are the elements that are tokens, in order, and then one of kind End.
use Rattle.std.specs.Prelude.{◌≡◌, ◌≢◌, ◌+◌, ◌<◌, ◌≤◌, ℕ, pos, List, [], ◌∷◌, ◌++◌, length, All}
use Rattle.je_decode.specs.Decoding.{Decodes, IsNotUtf8, HasBadEscape}
use Rattle.je_decode.specs.declared.character.Character.{Character}
use Rattle.je_token.specs.declared.token.Token.{Token}
use Rattle.je_token.specs.declared.token.TokenKind.TheVariants as kind
use Rattle.je_lexer.specs.Elements.{Element, IsNext, BeginsNone}
use Rattle.je_lexer.specs.Faults.{IsWrong}
use Rattle.je_lexer.specs.Tokens.{Gives, no_name}
use Rattle.je_lexer.specs.declared.fault.FaultKind.{FaultKind}
use Rattle.je_lexer.specs.declared.fault.FaultKind.TheVariants as fault
use Rattle.je_lexer.specs.declared.fault.LexFault.{LexFault}
use Rattle.je_lexer.specs.declared.fault.LexFault.TheVariants as refusal
use Rattle.je_lexer.specs.declared.file_tokens.Tokens.{Tokens}

-- With these names and texts before, the characters are these tokens, with those names and texts after.
pub data Lexes (file : ℕ) : List (List ℕ) → List (List ℕ) → List Character → List Token → List (List ℕ) → List (List ℕ) → Type 0 where
  at_end : {names texts : List (List ℕ)} → Lexes file names texts [] [] names texts
  blank : {names texts names1 texts1 : List (List ℕ)} {text front behind : List Character} {out : List Token} → IsNext text Element.Blank front behind →
      Lexes file names texts behind out names1 texts1 → Lexes file names texts text out names1 texts1
  token : {names texts names1 texts1 names2 texts2 : List (List ℕ)} {text front behind : List Character} {e : Element} {t : Token} {out : List Token} →
      IsNext text e front behind → Gives file names texts e front t names1 texts1 → Lexes file names1 texts1 behind out names2 texts2 →
      Lexes file names texts text (t ∷ out) names2 texts2

-- The characters are elements up to a place where none begins, and the fault there stands from this byte to that.
pub data Fails (file_end : ℕ) : List Character → FaultKind → ℕ → ℕ → Type 0 where
  here : {text : List Character} {k : FaultKind} {start end : ℕ} → BeginsNone text → IsWrong file_end text k start end → Fails file_end text k start end
  later : {text front behind : List Character} {e : Element} {k : FaultKind} {start end : ℕ} → IsNext text e front behind → Fails file_end behind k start end →
      Fails file_end text k start end

abbrev pub end_token : ℕ → ℕ → Token
end_token file file_end =
    record { kind = kind.End; span = record { file = file; start = file_end; end = file_end }; text = no_name; value = pos 0; first_end = file_end; second_end = file_end }

-- The bytes are these tokens, with these names and texts. The first name is the empty text, which tokens other than words have.
pub record HasTokens (file : ℕ) (bytes : List ℕ) (tokens : List Token) (names texts : List (List ℕ)) : Type 0 where
  pub characters : List Character
  pub decoded : Decodes bytes characters
  pub list : List Token
  pub lexed : Lexes file ([] ∷ []) [] characters list names texts
  pub ended : tokens ≡ list ++ end_token file (length bytes) ∷ []

-- The token's bytes are in the file.
abbrev pub IsInside : ℕ → ℕ → Token → Type 0
IsInside file file_end t = (t.span.file ≡ file) × (t.span.start ≤ t.span.end) × (t.span.end ≤ file_end)

-- Where the token is a string literal, its value is a place in the texts.
abbrev pub HasText : List (List ℕ) → Token → Type 0
HasText texts t = t.kind ≡ kind.TextLiteral → (place : ℕ) × (t.value ≡ pos place) × (place < length texts)

-- The last token is of kind End and no other is; each token's name number is a place in the names, and each string literal's
-- value a place in the texts.
pub record AreWhole (tokens : List Token) (names texts : List (List ℕ)) : Type 0 where
  pub front : List Token
  pub last : Token
  pub whole : tokens ≡ front ++ last ∷ []
  pub ended : last.kind ≡ kind.End
  pub unended : All (λ t. t.kind ≢ kind.End) front
  pub named : All (λ t. t.text.0 < length names) tokens
  pub texted : All (HasText texts) tokens

-- A byte that isn't UTF-8 comes before all other faults, then a malformed Unicode escape, then the first in reading order.
pub data HasFault (bytes : List ℕ) : FaultKind → ℕ → ℕ → Type 0 where
  not_utf8 : {at : ℕ} → IsNotUtf8 bytes at → HasFault bytes fault.NotUtf8 at (at + 1)
  malformed : {bad : Character} → HasBadEscape bytes bad → HasFault bytes fault.BadEscape bad.start bad.end
  no_element : {k : FaultKind} {start end : ℕ} (characters : List Character) → Decodes bytes characters → Fails (length bytes) characters k start end →
      HasFault bytes k start end

-- The bytes' tokens.
abbrev pub IsTokens : ℕ → List ℕ → Tokens → Type 0
IsTokens file bytes tokens = HasTokens file bytes tokens.list.items tokens.names tokens.texts.items

-- Why bytes have no tokens, unless memory ran out.
abbrev pub IsUnlexed : ℕ → List ℕ → LexFault → Type 0
IsUnlexed file bytes refusal.Memory = Unit {0}
IsUnlexed file bytes (refusal.At kind span) = (span.file ≡ file) × HasFault bytes kind span.start span.end
