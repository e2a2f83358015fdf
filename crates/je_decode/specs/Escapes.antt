-- JLS 3.3: Unicode escapes. A text is a row of pieces, each a character as it stands, an escape, or two escapes that form a
-- surrogate pair.
use Rattle.std.specs.Prelude.{◌≡◌, ℕ, ◌+◌, ◌-◌, ◌*◌, Bool, false, not, ◌&&◌, ◌==◌, nat_le, List, [], ◌∷◌, Option, Some, None, option_map, if◌then◌else◌}
use Rattle.std.specs.Char.{digit_value}
use Rattle.je_decode.specs.declared.character.Character.{Character}

-- `\`
abbrev pub backslash : ℕ
backslash = 92

-- `u`
abbrev pub lower_u : ℕ
lower_u = 117

abbrev pub begins_with : ℕ → List Character → Bool
begins_with code [] = false
begins_with code (c ∷ cs) = c.code == code

-- A backslash before a `u` begins an escape, unless an odd number of backslashes stands before it, which `odd` says.
abbrev pub opens : Bool → Character → List Character → Bool
opens odd c cs = not odd && (c.code == backslash) && begins_with lower_u cs

-- whether an odd number of backslashes stands before what is behind the piece
abbrev pub turns : Bool → Character → List Character → Bool
turns odd c cs = not odd && (c.code == backslash) && not (begins_with lower_u cs)

-- an escape's value, the byte behind it, and the text behind it
pub record Escape : Type 0 where
  pub unit : ℕ
  pub end : ℕ
  pub rest : List Character

abbrev pub behind_marks : List Character → List Character
behind_marks [] = []
behind_marks (c ∷ cs) = if c.code == lower_u then behind_marks cs else c ∷ cs

abbrev pub is_hexadecimal : ℕ → Bool
is_hexadecimal code = nat_le (digit_value code) 15

-- a hexadecimal digit more
unfoldable pub one_digit : ℕ → List Character → Option Escape
one_digit unit [] = None
one_digit unit (c ∷ cs) = if is_hexadecimal c.code then Some (record { unit = 16 * unit + digit_value c.code; end = c.end; rest = cs }) else None

unfoldable pub and_digit : Option Escape → Option Escape
and_digit None = None
and_digit (Some e) = one_digit e.unit e.rest

-- what stands behind the backslash: a `u` or more, and four hexadecimal digits
unfoldable pub escape : List Character → Option Escape
escape cs = and_digit (and_digit (and_digit (one_digit 0 (behind_marks cs))))

-- the halves of a surrogate pair (JLS 3.1), and the character that they stand for
abbrev pub is_high : ℕ → Bool
is_high unit = nat_le 0xD800 unit && nat_le unit 0xDBFF

abbrev pub is_low : ℕ → Bool
is_low unit = nat_le 0xDC00 unit && nat_le unit 0xDFFF

abbrev pub pair : ℕ → ℕ → ℕ
pair high low = 0x10000 + 0x400 * (high - 0xD800) + (low - 0xDC00)

abbrev pub if_low : Option Escape → Option Escape
if_low None = None
if_low (Some e) = if is_low e.unit then Some e else None

-- the escape of a low half at the front
unfoldable pub low_half : List Character → Option Escape
low_half [] = None
low_half (c ∷ cs) = if opens false c cs then if_low (escape cs) else None

-- a character, and the text behind it
pub record Piece : Type 0 where
  pub character : Character
  pub rest : List Character

abbrev pub with_low : ℕ → Escape → Option Escape → Piece
with_low start e None = record { character = record { code = e.unit; start = start; end = e.end }; rest = e.rest }
with_low start e (Some l) = record { character = record { code = pair e.unit l.unit; start = start; end = l.end }; rest = l.rest }

unfoldable pub paired : ℕ → Escape → Piece
paired start e = with_low start e (if is_high e.unit then low_half e.rest else None)

-- the piece at the front; None where an escape is malformed
unfoldable pub piece : Bool → Character → List Character → Option Piece
piece odd c cs = if opens odd c cs then option_map (paired c.start) (escape cs) else Some (record { character = c; rest = cs })

-- The text is a row of pieces, and these are their characters.
pub data Translates : Bool → List Character → List Character → Type 0 where
  done : {odd : Bool} → Translates odd [] []
  more : {odd : Bool} {c : Character} {cs : List Character} {p : Piece} {ds : List Character} → piece odd c cs ≡ Some p → Translates (turns odd c cs) p.rest ds → Translates odd (c ∷ cs) (p.character ∷ ds)

-- This backslash begins the first malformed escape of the text.
pub data Malformed : Bool → List Character → Character → Type 0 where
  here : {odd : Bool} {c : Character} {cs : List Character} → piece odd c cs ≡ None → Malformed odd (c ∷ cs) c
  later : {odd : Bool} {c bad : Character} {cs : List Character} {p : Piece} → piece odd c cs ≡ Some p → Malformed (turns odd c cs) p.rest bad → Malformed odd (c ∷ cs) bad
