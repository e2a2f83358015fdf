-- What functions return, without the references in it.
use Rattle.std.specs.Prelude.{ℕ, List, [], ◌∷◌}
use Rattle.je_decode.specs.declared.character.Character.{Character}
use Rattle.je_lexer.specs.Texts.{TextPiece, HasBadBackslash}
use Rattle.je_lexer.specs.declared.texts.PieceFound.{PieceFound}
use Rattle.je_lexer.specs.declared.texts.TextFault.{TextFault}
use Rattle.je_lexer.specs.declared.texts.TextFault.TheVariants as fault
use Rattle.je_lexer.specs.declared.texts.PieceUnits.{PieceUnits}
use Rattle.je_lexer.specs.declared.texts.PieceUnits.TheVariants as units

abbrev pub units_said : PieceUnits → List ℕ
units_said (units.One a) = a ∷ []
units_said (units.Pair a b) = a ∷ b ∷ []

abbrev pub piece_said : PieceFound → TextPiece
piece_said p = record { units = units_said p.units; rest = p.rest.now }

-- The first backslash of a literal's text that begins no escape, unless memory ran out.
abbrev pub IsBadText : List Character → TextFault → Type 0
IsBadText body fault.Memory = Unit {0}
IsBadText body (fault.BadEscape bad) = HasBadBackslash body bad
