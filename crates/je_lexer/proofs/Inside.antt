-- A file's tokens stand inside it.
use Rattle.std.proofs.Common.{◌≡◌, ℕ, zero, suc, ◌+◌, ◌-◌, ◌*◌, ◌<◌, ◌≤◌, Bool, true, false, ◌==◌, List, [], ◌∷◌, ◌++◌, length, take, Option, Some, None, option_map, if◌then◌else◌, All, refl, sym, ap, subst, arith, length-append}
use Rattle.std.specs.Char.{digit_value, encode_utf8}
use Rattle.std.specs.Option.{IfSome}
use Rattle.std.specs.Str.{chars, encode_utf8_all, IsUtf8}
use Rattle.std.proofs.lemmas.List.Elements.{All-nil, All-cons, All-append}
use Rattle.std.proofs.lemmas.Str.{encodes-chars}
use Rattle.je_decode.specs.Decoding.{Decodes, without_mark, ends_in_mark}
use Rattle.je_decode.specs.Escapes.{Escape, Piece, is_hexadecimal, is_high, behind_marks, one_digit, and_digit, escape, opens, if_low, is_low, low_half, with_low, paired, piece, turns, Translates}
use Rattle.je_decode.specs.Places.{placed}
use Rattle.je_decode.specs.declared.character.Character.{Character}
use Rattle.je_token.specs.declared.token.Token.{Token}
use Rattle.je_lexer.specs.Elements.{Element, IsNext}
use Rattle.je_lexer.specs.Spans.{start_of, end_of}
use Rattle.je_lexer.specs.Lexing.{Lexes, HasTokens, IsInside, end_token}
use Rattle.je_lexer.specs.Tokens.{Gives, token}
use Rattle.je_lexer.proofs.Next.{next_some}

-- the characters stand one behind the other, from one byte to another
abbrev pub Stand : ℕ → ℕ → List Character → Type 0
Stand low high [] = low ≤ high
Stand low high (c ∷ cs) = (low ≤ c.start) × (c.start ≤ c.end) × Stand c.end high cs

from_lower : (low next high : ℕ) (cs : List Character) → low ≤ next → Stand next high cs → Stand low high cs
from_lower low next high [] less h = omega arith
from_lower low next high (c ∷ cs) less h = (omega (arith, h.0), h.1, h.2)

pub stand_room : (low high : ℕ) (cs : List Character) → Stand low high cs → low ≤ high
stand_room low high [] h = h
stand_room low high (c ∷ cs) h = let rest = stand_room c.end high cs h.2 in omega (arith, h.0, h.1)

pub without_first : (low high : ℕ) (c : Character) (cs : List Character) → Stand low high (c ∷ cs) → Stand low high cs
without_first low high c cs h = from_lower low c.end high cs (omega (arith, h.0, h.1)) h.2

pub stand_take : (n low high : ℕ) (cs : List Character) → Stand low high cs → Stand low high (take n cs)
stand_take zero low high cs h = stand_room low high cs h
stand_take (suc n) low high [] h = h
stand_take (suc n) low high (c ∷ cs) h = (h.0, h.1, stand_take n c.end high cs h.2)

pub stand_front : (low high : ℕ) (front behind : List Character) → Stand low high (front ++ behind) → Stand low high front
stand_front low high [] behind h = stand_room low high behind h
stand_front low high (c ∷ cs) behind h = (h.0, h.1, stand_front c.end high cs behind h.2)

pub stand_behind : (low high : ℕ) (front behind : List Character) → Stand low high (front ++ behind) → Stand low high behind
stand_behind low high [] behind h = h
stand_behind low high (c ∷ cs) behind h = stand_behind low high cs behind (without_first low high c (cs ++ behind) h)

stand_placed : (at : ℕ) (cs : List ℕ) → Stand at (at + length (encode_utf8_all cs)) (placed at cs)
stand_placed at [] = omega arith
stand_placed at (c ∷ cs) =
    let next = at + length (encode_utf8 c) in
    let whole : at + length (encode_utf8_all (c ∷ cs)) ≡ next + length (encode_utf8_all cs) = omega (arith, length-append (encode_utf8 c) (encode_utf8_all cs)) in
    let rest : Stand next (at + length (encode_utf8_all (c ∷ cs))) (placed next cs) = rw whole (stand_placed next cs) in
    (omega arith, omega arith, rest)

-- ---- escapes

module _ (high : ℕ) where
  -- what is found ends behind this byte, and the rest stands behind it
  abbrev Goes : ℕ → Option Escape → Type 0
  Goes low o = IfSome o (λ e. (low ≤ e.end) × Stand e.end high e.rest)

  goes_from : (low next : ℕ) (o : Option Escape) → low ≤ next → Goes next o → Goes low o
  goes_from low next None less h = tt
  goes_from low next (Some e) less h = (omega (arith, h.0), h.1)

  stand_marks : (low : ℕ) (cs : List Character) → Stand low high cs → Stand low high (behind_marks cs)
  stand_marks low [] h = h
  stand_marks low (c ∷ cs) h = by (c.code == 117) (stand_marks low cs (without_first low high c cs h))
    where
      by : (b : Bool) → Stand low high (behind_marks cs) → Stand low high (if b then behind_marks cs else c ∷ cs)
      by true k = k
      by false k = h

  digit_goes : (low unit : ℕ) (cs : List Character) → Stand low high cs → Goes low (one_digit unit cs)
  unfolding one_digit
  digit_goes low unit [] h = tt
  digit_goes low unit (c ∷ cs) h = by (is_hexadecimal c.code)
    where
      by : (b : Bool) → Goes low (if b then Some (record { unit = 16 * unit + digit_value c.code; end = c.end; rest = cs }) else None)
      by true = (omega (arith, h.0, h.1), h.2)
      by false = tt

  and_digit_goes : (low : ℕ) (o : Option Escape) → Goes low o → Goes low (and_digit o)
  unfolding and_digit
  and_digit_goes low None h = tt
  and_digit_goes low (Some e) h = goes_from low e.end (one_digit e.unit e.rest) h.0 (digit_goes e.end e.unit e.rest h.1)

  escape_goes : (low : ℕ) (cs : List Character) → Stand low high cs → Goes low (escape cs)
  unfolding escape
  escape_goes low cs h = and_digit_goes low _ (and_digit_goes low _ (and_digit_goes low _ (digit_goes low 0 (behind_marks cs) (stand_marks low cs h))))

  low_goes : (low : ℕ) (o : Option Escape) → Goes low o → Goes low (if_low o)
  low_goes low None h = tt
  low_goes low (Some e) h = by (is_low e.unit)
    where
      by : (b : Bool) → Goes low (if b then Some e else None)
      by true = h
      by false = tt

  low_half_goes : (low : ℕ) (text : List Character) → Stand low high text → Goes low (low_half text)
  unfolding low_half
  low_half_goes low [] h = tt
  low_half_goes low (c ∷ cs) h = by (opens false c cs)
    where
      by : (b : Bool) → Goes low (if b then if_low (escape cs) else None)
      by true = low_goes low (escape cs) (escape_goes low cs (without_first low high c cs h))
      by false = tt

  paired_stands : (low start : ℕ) (e : Escape) → low ≤ start → start ≤ e.end → Stand e.end high e.rest → Stand low high ((paired start e).character ∷ (paired start e).rest)
  unfolding paired
  paired_stands low start e from to h = by (is_high e.unit)
    where
      with : (o : Option Escape) → Goes e.end o → Stand low high ((with_low start e o).character ∷ (with_low start e o).rest)
      with None k = (from, to, h)
      with (Some l) k = (from, omega (arith, k.0), k.1)

      by : (b : Bool) → Stand low high ((with_low start e (if b then low_half e.rest else None)).character ∷ (with_low start e (if b then low_half e.rest else None)).rest)
      by true = with (low_half e.rest) (low_half_goes e.end e.rest h)
      by false = with None tt

  pub piece_stands : (low : ℕ) (odd : Bool) (c : Character) (cs : List Character) → Stand low high (c ∷ cs) → IfSome (piece odd c cs) (λ p. Stand low high (p.character ∷ p.rest))
  unfolding piece
  piece_stands low odd c cs h = by (opens odd c cs)
    where
      mapped : (o : Option Escape) → Goes c.end o → IfSome (option_map (paired c.start) o) (λ p. Stand low high (p.character ∷ p.rest))
      mapped None k = tt
      mapped (Some e) k = paired_stands low c.start e h.0 (omega (arith, h.1, k.0)) k.1

      by : (b : Bool) → IfSome (if b then option_map (paired c.start) (escape cs) else Some (record { character = c; rest = cs })) (λ p. Stand low high (p.character ∷ p.rest))
      by true = mapped (escape cs) (escape_goes c.end cs h.2)
      by false = h

  translated_stands : (low : ℕ) (odd : Bool) (text ds : List Character) → Translates odd text ds → Stand low high text → Stand low high ds
  translated_stands low odd _ _ Translates.done h = h
  translated_stands low odd _ _ (Translates.more {c = c} {cs = cs} {p = p} {ds = ds} is rest) h =
      let Q = λ (o : Option Piece). IfSome o (λ q. Stand low high (q.character ∷ q.rest)) in let k : Stand low high (p.character ∷ p.rest) = subst Q is (piece_stands low odd c cs h) in (k.0, k.1, translated_stands p.character.end (turns odd c cs) p.rest ds rest k.2)

stand_unmarked : (low high : ℕ) (cs : List Character) → Stand low high cs → Stand low high (without_mark cs)
stand_unmarked low high cs h = by (ends_in_mark cs)
  where
    by : (b : Bool) → Stand low high (if b then take (length cs - 1) cs else cs)
    by true = stand_take (length cs - 1) low high cs h
    by false = h

pub raw_stand : (bytes : List ℕ) → IsUtf8 bytes → Stand 0 (length bytes) (placed 0 (chars bytes))
raw_stand bytes utf8 =
    let size : 0 + length (encode_utf8_all (chars bytes)) ≡ length bytes = let same = ap length (encodes-chars bytes utf8) in omega arith in
    rw (← size) (stand_placed 0 (chars bytes))

pub decoded_stand : (bytes : List ℕ) (all : List Character) → Decodes bytes all → Stand 0 (length bytes) all
decoded_stand bytes all d =
    rw d.kept (stand_unmarked 0 (length bytes) d.text (translated_stands (length bytes) 0 false (placed 0 (chars bytes)) d.text d.translates (raw_stand bytes d.utf8)))

-- ---- tokens

pub ends_within : (low high : ℕ) (cs : List Character) → Stand low high cs → (low ≤ end_of low cs) × (end_of low cs ≤ high)
ends_within low high [] h = (omega arith, h)
ends_within low high (c ∷ cs) h = let k = ends_within c.end high cs h.2 in (omega (arith, h.0, h.1, k.0), k.1)

pub front_within : (low high : ℕ) (front : List Character) → 0 < length front → Stand low high front → (start_of 0 front ≤ end_of 0 front) × (end_of 0 front ≤ high)
front_within low high [] some h = absurd (omega arith)
front_within low high (c ∷ cs) some h = let k = ends_within c.end high cs h.2 in (omega (arith, h.1, k.0), k.1)

token_inside : (file high : ℕ) (names texts names1 texts1 : List (List ℕ)) (e : Element) (front : List Character) (t : Token) → Gives file names texts e front t names1 texts1 →
    (start_of 0 front ≤ end_of 0 front) × (end_of 0 front ≤ high) → IsInside file high t
unfolding token
token_inside file high names texts names1 texts1 _ front _ (Gives.word found) h = (refl, h.0, h.1)
token_inside file high names texts names1 texts1 _ front _ Gives.sign h = (refl, h.0, h.1)
token_inside file high names texts names1 texts1 _ front _ Gives.integer h = (refl, h.0, h.1)
token_inside file high names texts names1 texts1 _ front _ Gives.char_literal h = (refl, h.0, h.1)
token_inside file high names texts names1 texts1 _ front _ Gives.text_literal h = (refl, h.0, h.1)

-- an element of a text that stands in a file stands there, and so does what is behind it
pub next_stands : (low high : ℕ) (text : List Character) (e : Element) (front behind : List Character) → IsNext text e front behind → Stand low high text →
    Stand low high front × Stand low high behind
next_stands low high text e front behind next h =
    let whole : Stand low high (front ++ behind) = subst (Stand low high) next.parts h in (stand_front low high front behind whole, stand_behind low high front behind whole)

lexed_inside : (file low high : ℕ) (names texts names1 texts1 : List (List ℕ)) (text : List Character) (out : List Token) → Lexes file names texts text out names1 texts1 →
    Stand low high text → All (IsInside file high) out
lexed_inside file low high _ _ _ _ _ _ Lexes.at_end h = All-nil (IsInside file high)
lexed_inside file low high _ _ _ _ text _ (Lexes.blank {front = f} {behind = b} next rest) h =
    lexed_inside file low high _ _ _ _ _ _ rest (next_stands low high text Element.Blank f b next h).1
lexed_inside file low high _ _ _ _ text _ (Lexes.token {front = f} {behind = b} {e = e} next given rest) h =
    let stands = next_stands low high text e f b next h in
    All-cons (IsInside file high) _ _ (token_inside file high _ _ _ _ _ _ _ given (front_within low high f (next_some text e f b next) stands.0))
    (lexed_inside file low high _ _ _ _ _ _ rest stands.1)

pub tokens_inside : (file : ℕ) (bytes : List ℕ) (list : List Token) (names texts : List (List ℕ)) → HasTokens file bytes list names texts → All (IsInside file (length bytes)) list
tokens_inside file bytes list names texts h =
    let front = lexed_inside file 0 (length bytes) _ _ _ _ _ _ h.lexed (decoded_stand bytes h.characters h.decoded) in
    let last : IsInside file (length bytes) (end_token file (length bytes)) = (refl, omega arith, omega arith) in
    let P : List Token → Type 0 = λ out. All (IsInside file (length bytes)) out in
    subst P (sym h.ended) (All-append (IsInside file (length bytes)) h.list (end_token file (length bytes) ∷ []) front (All-cons (IsInside file (length bytes)) (end_token file (length bytes)) [] last (All-nil (IsInside file (length bytes)))))
