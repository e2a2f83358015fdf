-- JLS 3.10.4 to 3.10.6: the UTF-16 units of what stands between a literal's quotes. It is a row of pieces, each a character
-- or an escape.
use Rattle.std.specs.Prelude.{◌≡◌, ℕ, ◌+◌, ◌-◌, ◌*◌, ◌/◌, ◌%◌, Bool, ◌&&◌, ◌||◌, ◌==◌, nat_le, nat_lt, List, [], ◌∷◌, ◌++◌, Option, Some, None, if◌then◌else◌}
use Rattle.je_decode.specs.declared.character.Character.{Character}
use Rattle.je_lexer.specs.Characters as char

-- the units of a character: one, or a surrogate pair that holds the twenty bits past 0x10000
abbrev pub units_of : ℕ → List ℕ
units_of code = if nat_lt code 0x10000 then code ∷ [] else (0xD800 + ((code - 0x10000) / 0x400) % 0x400) ∷ (0xDC00 + (code - 0x10000) % 0x400) ∷ []

abbrev pub is_octal : ℕ → Bool
is_octal code = nat_le char.digit_0 code && nat_le code char.digit_7

-- units, and what stands behind the characters that mean them
pub record TextPiece : Type 0 where
  pub units : List ℕ
  pub rest : List Character

abbrev pub one_unit : ℕ → List Character → TextPiece
one_unit unit rest = record { units = unit ∷ []; rest = rest }

-- `b t n f r " ' \` behind a backslash
abbrev pub simple_escape : ℕ → Option ℕ
simple_escape code =
    if code == char.lower_b then Some char.backspace
    else if code == char.lower_t then Some char.tab
    else if code == char.lower_n then Some char.line_feed
    else if code == char.lower_f then Some char.form_feed
    else if code == char.lower_r then Some char.carriage_return
    else if (code == char.double_quote) || (code == char.single_quote) || (code == char.backslash) then Some code
    else None

-- one octal digit more, where one stands there
abbrev pub and_octal : ℕ → List Character → TextPiece
and_octal value [] = one_unit value []
and_octal value (c ∷ cs) = if is_octal c.code then one_unit (8 * value + (c.code - char.digit_0)) cs else one_unit value (c ∷ cs)

-- up to two octal digits more, but one alone behind 4 to 7
abbrev pub and_octals : ℕ → List Character → TextPiece
and_octals value [] = one_unit value []
and_octals value (c ∷ cs) =
    if is_octal c.code then (if nat_le value 3 then and_octal (8 * value + (c.code - char.digit_0)) cs else one_unit (8 * value + (c.code - char.digit_0)) cs)
    else one_unit value (c ∷ cs)

abbrev pub with_rest : Option ℕ → List Character → Option TextPiece
with_rest None cs = None
with_rest (Some unit) cs = Some (one_unit unit cs)

-- behind a backslash
unfoldable pub escape_piece : List Character → Option TextPiece
escape_piece [] = None
escape_piece (c ∷ cs) = if is_octal c.code then Some (and_octals (c.code - char.digit_0) cs) else with_rest (simple_escape c.code) cs

-- the piece at the front; None where a backslash begins no escape
unfoldable pub text_piece : Character → List Character → Option TextPiece
text_piece c cs = if c.code == char.backslash then escape_piece cs else Some (record { units = units_of c.code; rest = cs })

-- The characters mean these units.
pub data Means : List Character → List ℕ → Type 0 where
  done : Means [] []
  more : {c : Character} {cs : List Character} {p : TextPiece} {units : List ℕ} → text_piece c cs ≡ Some p → Means p.rest units → Means (c ∷ cs) (p.units ++ units)

-- This is the first backslash that begins no escape.
pub data HasBadBackslash : List Character → Character → Type 0 where
  here : {c : Character} {cs : List Character} → text_piece c cs ≡ None → HasBadBackslash (c ∷ cs) c
  later : {c bad : Character} {cs : List Character} {p : TextPiece} → text_piece c cs ≡ Some p → HasBadBackslash p.rest bad → HasBadBackslash (c ∷ cs) bad
