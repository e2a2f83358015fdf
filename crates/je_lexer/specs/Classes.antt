-- JLS 3.4, 3.6, 3.8: white space, line ends, and the characters of identifiers, which are those of Unicode's XID_Start and
-- XID_Continue, `_` and `$`.
use Rattle.std.specs.Prelude.{ℕ, Bool, false, ◌&&◌, ◌||◌, ◌==◌, nat_lt, List, [], ◌∷◌}
use Rattle.std.specs.Char.{digit_value}
use Rattle.std.proofs.Math.Utf8.{scalar}
use Rattle.unicode_ident.specs.Ident.{is_xid_start, is_xid_continue}
use Rattle.je_decode.specs.declared.character.Character.{Character}
use Rattle.je_lexer.specs.Characters as char

abbrev pub is_space : ℕ → Bool
is_space code = (code == char.space) || (code == char.tab) || (code == char.form_feed) || (code == char.carriage_return) || (code == char.line_feed)

abbrev pub ends_line : ℕ → Bool
ends_line code = (code == char.line_feed) || (code == char.carriage_return)

unfoldable pub starts_name : ℕ → Bool
starts_name code = (scalar code && is_xid_start code) || (code == char.underscore) || (code == char.dollar)

unfoldable pub continues_name : ℕ → Bool
continues_name code = (scalar code && is_xid_continue code) || (code == char.dollar)

abbrev pub is_digit_below : ℕ → ℕ → Bool
is_digit_below radix code = nat_lt (digit_value code) radix

abbrev pub begins_with : ℕ → List Character → Bool
begins_with code [] = false
begins_with code (c ∷ cs) = c.code == code

abbrev pub begins_with_digit : ℕ → List Character → Bool
begins_with_digit radix [] = false
begins_with_digit radix (c ∷ cs) = is_digit_below radix c.code

abbrev pub tail : List Character → List Character
tail [] = []
tail (c ∷ cs) = cs

abbrev pub is_quote : ℕ → Bool
is_quote code = (code == char.double_quote) || (code == char.single_quote)

-- an identifier character stands there
abbrev pub begins_as_name_part : List Character → Bool
begins_as_name_part [] = false
begins_as_name_part (c ∷ cs) = continues_name c.code
