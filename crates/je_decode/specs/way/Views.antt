-- What functions return, without the references in it.
use Rattle.std.specs.Prelude.{false, List}
use Rattle.je_decode.specs.Escapes.{Escape, Piece, Malformed}
use Rattle.je_decode.specs.declared.character.Character.{Character}
use Rattle.je_decode.specs.declared.escapes.EscapeFound.{EscapeFound}
use Rattle.je_decode.specs.declared.escapes.PieceFound.{PieceFound}
use Rattle.je_decode.specs.declared.fault.DecodeFault.{DecodeFault}
use Rattle.je_decode.specs.declared.fault.DecodeFault.TheVariants as fault

abbrev pub escape_said : EscapeFound → Escape
escape_said e = record { unit = e.unit; end = e.end; rest = e.rest.now }

abbrev pub piece_said : PieceFound → Piece
piece_said p = record { character = p.character; rest = p.rest.now }

-- The text's first malformed escape, unless memory ran out.
abbrev pub IsUntranslated : List Character → DecodeFault → Type 0
IsUntranslated raw fault.Memory = Unit {0}
IsUntranslated raw (fault.NotUtf8 at) = ⊥
IsUntranslated raw (fault.BadEscape bad) = Malformed false raw bad
