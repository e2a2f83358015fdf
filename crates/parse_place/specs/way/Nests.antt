-- How many braces are open behind a token.
use Rattle.std.specs.Prelude.{ℕ, zero, suc, Option, Some, None}
use Rattle.je_token.specs.declared.symbol.Symbol.TheVariants as symbol
use Rattle.je_token.specs.declared.token.TokenKind.{TokenKind}
use Rattle.je_token.specs.declared.token.TokenKind.TheVariants as kind

-- one less, where there is one
abbrev pub one_closed : ℕ → Option ℕ
one_closed zero = None
one_closed (suc n) = Some n

-- None where a `}` closes what was open before
abbrev pub open_behind_at : ℕ → TokenKind → Option ℕ
open_behind_at n (kind.Symbol symbol.OpenBrace) = Some (suc n)
open_behind_at n (kind.Symbol symbol.CloseBrace) = one_closed n
open_behind_at n _ = Some n
