-- The longest separator or operator at the front of a text (JLS 3.11, 3.12), as it is searched for.
use Rattle.std.specs.Prelude.{ℕ, Bool, true, false, ◌&&◌, ◌==◌, ◌<◌, ◌≤◌, nat_lt, List, [], ◌∷◌, length, Option, Some, None, if◌then◌else◌}
use Rattle.je_decode.specs.declared.character.Character.{Character}
use Rattle.je_token.specs.Texts.{symbol_text}
use Rattle.je_token.specs.declared.symbol.Symbol.{Symbol}
use Rattle.je_token.specs.declared.symbol.Symbol.TheVariants as symbol

abbrev pub all_symbols : List Symbol
all_symbols =
    symbol.Not ∷ symbol.NotEqual ∷ symbol.Percent ∷ symbol.PercentAssign ∷ symbol.And ∷ symbol.AndAnd ∷ symbol.AndAssign ∷ symbol.OpenParen ∷
    symbol.CloseParen ∷ symbol.Star ∷ symbol.StarAssign ∷ symbol.Plus ∷ symbol.Increment ∷ symbol.PlusAssign ∷ symbol.Comma ∷ symbol.Minus ∷
    symbol.Decrement ∷ symbol.MinusAssign ∷ symbol.Dot ∷ symbol.Ellipsis ∷ symbol.Slash ∷ symbol.SlashAssign ∷ symbol.Colon ∷ symbol.Semicolon ∷
    symbol.Less ∷ symbol.ShiftLeft ∷ symbol.ShiftLeftAssign ∷ symbol.LessEqual ∷ symbol.Assign ∷ symbol.Equal ∷ symbol.Greater ∷ symbol.GreaterEqual ∷
    symbol.ShiftRight ∷ symbol.ShiftRightAssign ∷ symbol.UnsignedShiftRight ∷ symbol.UnsignedShiftRightAssign ∷ symbol.Question ∷ symbol.At ∷
    symbol.OpenBracket ∷ symbol.CloseBracket ∷ symbol.Caret ∷ symbol.CaretAssign ∷ symbol.OpenBrace ∷ symbol.Or ∷ symbol.OrAssign ∷ symbol.OrOr ∷
    symbol.CloseBrace ∷ symbol.Tilde ∷
    []

-- the text begins with these characters
abbrev pub fits : List ℕ → List Character → Bool
fits [] text = true
fits (b ∷ bs) [] = false
fits (b ∷ bs) (c ∷ cs) = (c.code == b) && fits bs cs

abbrev pub symbol_len : Option Symbol → ℕ
symbol_len None = 0
symbol_len (Some s) = length (symbol_text s)

-- the symbol, where it stands at the front and is longer than the best so far
unfoldable pub longer : Option Symbol → Symbol → List Character → Option Symbol
longer best s text = if fits (symbol_text s) text && nat_lt (symbol_len best) (length (symbol_text s)) then Some s else best

abbrev pub longest : Option Symbol → List Symbol → List Character → Option Symbol
longest best [] text = best
longest best (s ∷ more) text = longest (longer best s text) more text

unfoldable pub symbol_at : List Character → Option Symbol
symbol_at text = longest None all_symbols text

-- the symbol is some characters, and as many stand in the text
abbrev pub FitsIn : Option Symbol → List Character → Type 0
FitsIn None text = Unit {0}
FitsIn (Some s) text = (0 < length (symbol_text s)) × (length (symbol_text s) ≤ length text)
