-- A file has at most as many characters as bytes, and besides its last token at most as many tokens as characters.
use Rattle.std.proofs.Common.{ℕ, ◌+◌, ◌-◌, ◌*◌, ◌≤◌, Bool, true, false, ◌==◌, List, [], ◌∷◌, length, take, Option, Some, None, option_map, if◌then◌else◌, refl, ap, subst, arith, length-append, length-take-le}
use Rattle.std.specs.Char.{digit_value}
use Rattle.std.specs.Option.{IfSome}
use Rattle.std.specs.Str.{chars}
use Rattle.je_decode.specs.Decoding.{Decodes, without_mark, ends_in_mark}
use Rattle.je_decode.specs.Escapes.{Escape, Piece, is_hexadecimal, is_high, behind_marks, one_digit, and_digit, escape, opens, if_low, is_low, low_half, with_low, paired, piece, turns, Translates}
use Rattle.je_decode.specs.Places.{placed}
use Rattle.je_decode.specs.declared.character.Character.{Character}
use Rattle.je_decode.proofs.Placing.{few_placed}
use Rattle.je_token.specs.declared.token.Token.{Token}
use Rattle.je_lexer.specs.Lexing.{Lexes, HasTokens, end_token}
use Rattle.je_lexer.proofs.Next.{next_some}

-- ---- characters

-- what is found leaves at most so many characters behind it
abbrev Leaves : ℕ → Option Escape → Type 0
Leaves n o = IfSome o (λ e. length e.rest ≤ n)

leaves_more : (m n : ℕ) (o : Option Escape) → m ≤ n → Leaves m o → Leaves n o
leaves_more m n None less h = tt
leaves_more m n (Some e) less h = let k : length e.rest ≤ m = h in omega arith

marks_leave : (cs : List Character) → length (behind_marks cs) ≤ length cs
marks_leave [] = omega arith
marks_leave (c ∷ cs) = by (c.code == 117) (marks_leave cs)
  where
    by : (b : Bool) → length (behind_marks cs) ≤ length cs → length (if b then behind_marks cs else c ∷ cs) ≤ length (c ∷ cs)
    by true k = omega arith
    by false k = omega arith

digit_leaves : (unit : ℕ) (cs : List Character) → Leaves (length cs) (one_digit unit cs)
unfolding one_digit
digit_leaves unit [] = tt
digit_leaves unit (c ∷ cs) = by (is_hexadecimal c.code)
  where
    by : (b : Bool) → Leaves (length (c ∷ cs)) (if b then Some (record { unit = 16 * unit + digit_value c.code; end = c.end; rest = cs }) else None)
    by true = omega arith
    by false = tt

and_digit_leaves : (n : ℕ) (o : Option Escape) → Leaves n o → Leaves n (and_digit o)
unfolding and_digit
and_digit_leaves n None h = tt
and_digit_leaves n (Some e) h = leaves_more (length e.rest) n (one_digit e.unit e.rest) h (digit_leaves e.unit e.rest)

escape_leaves : (cs : List Character) → Leaves (length cs) (escape cs)
unfolding escape
escape_leaves cs =
    let n = length cs in
    let first = leaves_more (length (behind_marks cs)) n (one_digit 0 (behind_marks cs)) (marks_leave cs) (digit_leaves 0 (behind_marks cs)) in
    and_digit_leaves n _ (and_digit_leaves n _ (and_digit_leaves n _ first))

low_leaves : (n : ℕ) (o : Option Escape) → Leaves n o → Leaves n (if_low o)
low_leaves n None h = tt
low_leaves n (Some e) h = by (is_low e.unit)
  where
    by : (b : Bool) → Leaves n (if b then Some e else None)
    by true = h
    by false = tt

low_half_leaves : (text : List Character) → Leaves (length text) (low_half text)
unfolding low_half
low_half_leaves [] = tt
low_half_leaves (c ∷ cs) = by (opens false c cs)
  where
    by : (b : Bool) → Leaves (length (c ∷ cs)) (if b then if_low (escape cs) else None)
    by true = low_leaves (length (c ∷ cs)) (escape cs) (leaves_more (length cs) (length (c ∷ cs)) (escape cs) (omega arith) (escape_leaves cs))
    by false = tt

paired_leaves : (n start : ℕ) (e : Escape) → length e.rest ≤ n → length ((paired start e).rest) ≤ n
unfolding paired
paired_leaves n start e h = by (is_high e.unit)
  where
    with : (o : Option Escape) → Leaves (length e.rest) o → length ((with_low start e o).rest) ≤ n
    with None k = h
    with (Some l) k = let less : length l.rest ≤ length e.rest = k in omega arith

    by : (b : Bool) → length ((with_low start e (if b then low_half e.rest else None)).rest) ≤ n
    by true = with (low_half e.rest) (low_half_leaves e.rest)
    by false = with None tt

piece_leaves : (odd : Bool) (c : Character) (cs : List Character) → IfSome (piece odd c cs) (λ p. length p.rest ≤ length cs)
unfolding piece
piece_leaves odd c cs = by (opens odd c cs)
  where
    mapped : (o : Option Escape) → Leaves (length cs) o → IfSome (option_map (paired c.start) o) (λ p. length p.rest ≤ length cs)
    mapped None k = tt
    mapped (Some e) k = paired_leaves (length cs) c.start e k

    by : (b : Bool) → IfSome (if b then option_map (paired c.start) (escape cs) else Some (record { character = c; rest = cs })) (λ p. length p.rest ≤ length cs)
    by true = mapped (escape cs) (escape_leaves cs)
    by false = omega arith

translated_few : (odd : Bool) (text ds : List Character) → Translates odd text ds → length ds ≤ length text
translated_few odd _ _ Translates.done = omega arith
translated_few odd _ _ (Translates.more {c = c} {cs = cs} {p = p} {ds = ds} is rest) =
    let Q = λ (o : Option Piece). IfSome o (λ q. length q.rest ≤ length cs) in
    let less : length p.rest ≤ length cs = subst Q is (piece_leaves odd c cs) in
    let more = translated_few (turns odd c cs) p.rest ds rest in
    omega arith

unmarked_few : (cs : List Character) → length (without_mark cs) ≤ length cs
unmarked_few cs = by (ends_in_mark cs)
  where
    by : (b : Bool) → length (if b then take (length cs - 1) cs else cs) ≤ length cs
    by true = omega (arith, length-take-le (length cs - 1) cs (omega arith))
    by false = omega arith

decoded_few : (bytes : List ℕ) (all : List Character) → Decodes bytes all → length all ≤ length bytes
decoded_few bytes all d =
    let raw = few_placed bytes (placed 0 (chars bytes)) d.utf8 refl in
    let text = translated_few false (placed 0 (chars bytes)) d.text d.translates in
    let cut = unmarked_few d.text in
    let same = ap length d.kept in
    omega arith

-- ---- tokens

lexed_few : (file : ℕ) (names texts names1 texts1 : List (List ℕ)) (text : List Character) (out : List Token) → Lexes file names texts text out names1 texts1 →
    length out ≤ length text
lexed_few file _ _ _ _ _ _ Lexes.at_end = omega arith
lexed_few file _ _ _ _ text _ (Lexes.blank {front = f} {behind = b} next rest) =
    let more = lexed_few file _ _ _ _ b _ rest in
    let whole = ap length next.parts in
    let sum = length-append f b in
    omega arith
lexed_few file _ _ _ _ text _ (Lexes.token {front = f} {behind = b} {e = e} next given rest) =
    let some = next_some text e f b next in
    let more = lexed_few file _ _ _ _ b _ rest in
    let whole = ap length next.parts in
    let sum = length-append f b in
    omega arith

pub tokens_few : (file : ℕ) (bytes : List ℕ) (list : List Token) (names texts : List (List ℕ)) → HasTokens file bytes list names texts → length list ≤ length bytes + 1
tokens_few file bytes list names texts h =
    let tokens = lexed_few file _ _ _ _ h.characters h.list h.lexed in
    let characters = decoded_few bytes h.characters h.decoded in
    let whole = ap length h.ended in
    let sum = length-append h.list (end_token file (length bytes) ∷ []) in
    omega arith
