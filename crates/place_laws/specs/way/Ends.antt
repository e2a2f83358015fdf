-- How often the file's end stands in tokens.
use Rattle.std.specs.Prelude.{ℕ, suc, List, [], ◌∷◌}
use Rattle.je_token.specs.declared.token.Token.{Token}
use Rattle.je_token.specs.declared.token.TokenKind.{TokenKind}
use Rattle.je_token.specs.declared.token.TokenKind.TheVariants as kind

abbrev pub kind_ends : TokenKind → ℕ → ℕ
kind_ends kind.End n = suc n
kind_ends _ n = n

abbrev pub ends : List Token → ℕ
ends [] = 0
ends (t ∷ ts) = kind_ends t.kind (ends ts)
