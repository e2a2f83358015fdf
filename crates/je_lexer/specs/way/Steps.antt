-- What functions say of what is cut at one place.
use Rattle.std.specs.Prelude.{◌≡◌, ℕ, List, Option, Some, None}
use Rattle.je_decode.specs.declared.character.Character.{Character}
use Rattle.je_token.specs.declared.token.Token.{Token}
use Rattle.je_lexer.specs.Elements.{Element, body}
use Rattle.je_lexer.specs.Texts.{HasBadBackslash}
use Rattle.je_lexer.specs.Tokens.{Gives}
use Rattle.je_lexer.specs.declared.fault.FaultKind.TheVariants as fault
use Rattle.je_lexer.specs.declared.cutting.Cut.{Cut}
use Rattle.je_lexer.specs.declared.fault.LexFault.{LexFault}
use Rattle.je_lexer.specs.declared.fault.LexFault.TheVariants as refusal
use Rattle.je_lexer.specs.way.Cutting.{IsOf, IsBad}

-- What is cut is this token, with the names and texts before it and after it.
pub record IsToken (file : ℕ) (k : Cut) (front : List Character) (names texts names1 texts1 : List (List ℕ)) (t : Token) : Type 0 where
  pub element : Element
  pub is : IsOf k front element
  pub gives : Gives file names texts element front t names1 texts1

-- What is cut is this token, or is blank and changes nothing.
abbrev pub IsPiece : ℕ → Cut → List Character → List (List ℕ) → List (List ℕ) → List (List ℕ) → List (List ℕ) → Option Token → Type 0
IsPiece file k front names texts names1 texts1 None = IsOf k front Element.Blank × (names1 ≡ names) × (texts1 ≡ texts)
IsPiece file k front names texts names1 texts1 (Some t) = IsToken file k front names texts names1 texts1 t

-- Why what is cut is no element, unless memory ran out.
abbrev pub IsNoPiece : ℕ → Cut → List Character → LexFault → Type 0
IsNoPiece file k front refusal.Memory = Unit {0}
IsNoPiece file k front (refusal.At kind span) = (span.file ≡ file) × IsBad k front kind span.start span.end

-- The backslash in a literal that begins no escape, unless memory ran out.
abbrev pub IsBadBody : ℕ → List Character → LexFault → Type 0
IsBadBody file front refusal.Memory = Unit {0}
IsBadBody file front (refusal.At kind span) =
    (span.file ≡ file) × (kind ≡ fault.BadEscape) × ((bad : Character) × HasBadBackslash (body front) bad × (span.start ≡ bad.start) × (span.end ≡ bad.end))
