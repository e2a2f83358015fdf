-- A file's fault stands inside it.
use Rattle.std.proofs.Common.{ℕ, ◌+◌, ◌-◌, ◌*◌, ◌≤◌, Bool, true, false, ◌||◌, ◌==◌, nat_le, List, [], ◌∷◌, length, Option, Some, None, if◌then◌else◌, subst, arith}
use Rattle.std.specs.Option.{IfSome}
use Rattle.std.specs.Str.{chars}
use Rattle.je_decode.specs.Escapes.{Piece, turns, Malformed}
use Rattle.je_decode.specs.Places.{placed}
use Rattle.je_decode.specs.declared.character.Character.{Character}
use Rattle.je_lexer.specs.Classes.{ends_line, continues_name}
use Rattle.je_lexer.specs.Elements.{body}
use Rattle.je_lexer.specs.Faults.{IsLiteral, IsWrong}
use Rattle.je_lexer.specs.Lexing.{Fails, HasFault}
use Rattle.je_lexer.specs.Spans.{end_of, line_end, number_end}
use Rattle.je_lexer.specs.Texts.{TextPiece, units_of, one_unit, is_octal, simple_escape, and_octal, and_octals, with_rest, escape_piece, text_piece, HasBadBackslash}
use Rattle.je_lexer.specs.declared.fault.FaultKind.{FaultKind}
use Rattle.je_lexer.proofs.Inside.{Stand, stand_room, stand_take, stand_front, without_first, piece_stands, raw_stand, decoded_stand, ends_within, next_stands}

-- the bytes are in a file of so many bytes
abbrev Within : ℕ → ℕ → ℕ → Type 0
Within high start end = (start ≤ end) × (end ≤ high)

module _ (high : ℕ) where
  first_within : (low : ℕ) (c : Character) (cs : List Character) → Stand low high (c ∷ cs) → Within high c.start c.end
  first_within low c cs h = (h.1, stand_room c.end high cs h.2)

  malformed_within : (low : ℕ) (odd : Bool) (text : List Character) (bad : Character) → Malformed odd text bad → Stand low high text → Within high bad.start bad.end
  malformed_within low odd _ _ (Malformed.here {c = c} {cs = cs} not) h = first_within low c cs h
  malformed_within low odd _ bad (Malformed.later {c = c} {cs = cs} {p = p} is worse) h =
      let Q = λ (o : Option Piece). IfSome o (λ q. Stand low high (q.character ∷ q.rest)) in
      let k : Stand low high (p.character ∷ p.rest) = subst Q is (piece_stands high low odd c cs h) in malformed_within p.character.end (turns odd c cs) p.rest bad worse k.2

  -- ---- literals

  either_stands : (low : ℕ) (b : Bool) (p q : TextPiece) → Stand low high p.rest → Stand low high q.rest → Stand low high (if◌then◌else◌ {A = TextPiece} b p q).rest
  either_stands low true p q h k = h
  either_stands low false p q h k = k

  octal_stands : (low value : ℕ) (text : List Character) → Stand low high text → Stand low high (and_octal value text).rest
  octal_stands low value [] h = h
  octal_stands low value (c ∷ cs) h = either_stands low (is_octal c.code) (one_unit (8 * value + (c.code - 48)) cs) (one_unit value (c ∷ cs)) (without_first low high c cs h) h

  octals_stand : (low value : ℕ) (text : List Character) → Stand low high text → Stand low high (and_octals value text).rest
  octals_stand low value [] h = h
  octals_stand low value (c ∷ cs) h =
      let more = 8 * value + (c.code - 48) in let k = without_first low high c cs h in
      either_stands low (is_octal c.code) (if nat_le value 3 then and_octal more cs else one_unit more cs) (one_unit value (c ∷ cs))
      (either_stands low (nat_le value 3) (and_octal more cs) (one_unit more cs) (octal_stands low more cs k) k) h

  escape_piece_stands : (low : ℕ) (cs : List Character) → Stand low high cs → IfSome (escape_piece cs) (λ p. Stand low high p.rest)
  unfolding escape_piece
  escape_piece_stands low [] h = tt
  escape_piece_stands low (c ∷ cs) h = by (is_octal c.code)
    where
      with : (o : Option ℕ) → IfSome (with_rest o cs) (λ p. Stand low high p.rest)
      with None = tt
      with (Some unit) = without_first low high c cs h

      by : (b : Bool) → IfSome (if b then Some (and_octals (c.code - 48) cs) else with_rest (simple_escape c.code) cs) (λ p. Stand low high p.rest)
      by true = octals_stand low (c.code - 48) cs (without_first low high c cs h)
      by false = with (simple_escape c.code)

  text_piece_stands : (low : ℕ) (c : Character) (cs : List Character) → Stand low high (c ∷ cs) → IfSome (text_piece c cs) (λ p. Stand low high p.rest)
  unfolding text_piece
  text_piece_stands low c cs h = by (c.code == 92)
    where
      by : (b : Bool) → IfSome (if b then escape_piece cs else Some (record { units = units_of c.code; rest = cs })) (λ p. Stand low high p.rest)
      by true = escape_piece_stands low cs (without_first low high c cs h)
      by false = without_first low high c cs h

  backslash_within : (low : ℕ) (text : List Character) (bad : Character) → HasBadBackslash text bad → Stand low high text → Within high bad.start bad.end
  backslash_within low _ _ (HasBadBackslash.here {c = c} {cs = cs} not) h = first_within low c cs h
  backslash_within low _ bad (HasBadBackslash.later {c = c} {cs = cs} {p = p} is worse) h =
      let Q = λ (o : Option TextPiece). IfSome o (λ q. Stand low high q.rest) in backslash_within low p.rest bad worse (subst Q is (text_piece_stands low c cs h))

  -- ---- places where no element begins

  body_stands : (low : ℕ) (front : List Character) → Stand low high front → Stand low high (body front)
  body_stands low [] h = h
  body_stands low (c ∷ cs) h = stand_take (length (c ∷ cs) - 2) low high cs (without_first low high c cs h)

  line_within : (low : ℕ) (cs : List Character) → Stand low high cs → Within high low (line_end high cs)
  line_within low [] h = (h, omega arith)
  line_within low (c ∷ cs) h = by (ends_line c.code) (line_within c.end cs h.2)
    where
      by : (b : Bool) → Within high c.end (line_end high cs) → Within high low (if b then c.start else line_end high cs)
      by true k = let room = stand_room c.end high cs h.2 in (h.0, omega (arith, h.1))
      by false k = (omega (arith, h.0, h.1, k.0), k.1)

  number_within : (low : ℕ) (cs : List Character) → Stand low high cs → Within high low (number_end low cs)
  number_within low [] h = (omega arith, h)
  number_within low (c ∷ cs) h = by (continues_name c.code || (c.code == 46)) (number_within c.end cs h.2)
    where
      by : (b : Bool) → Within high c.end (number_end c.end cs) → Within high low (if b then number_end c.end cs else low)
      by true k = (omega (arith, h.0, h.1, k.0), k.1)
      by false k = (omega arith, stand_room low high (c ∷ cs) h)

  literal_stands : (low : ℕ) (text : List Character) (quote : Character) (inside behind : List Character) → IsLiteral text quote inside behind → Stand low high text →
      Stand low high (quote ∷ inside)
  literal_stands low text quote inside behind literal h = stand_front low high (quote ∷ inside) behind (subst (Stand low high) literal.parts h)

  from_first : (low end : ℕ) (c : Character) (cs : List Character) → Stand low high (c ∷ cs) → Within high c.end end → Within high c.start end
  from_first low end c cs h k = (omega (arith, h.1, k.0), k.1)

  wrong_within : (low : ℕ) (text : List Character) (kind : FaultKind) (start end : ℕ) → IsWrong high text kind start end → Stand low high text → Within high start end
  wrong_within low text _ _ _ (IsWrong.bad_escape {inside = i} {behind = b} {quote = c} {bad = bad} literal worse) h =
      backslash_within low (body (c ∷ i)) bad worse (body_stands low (c ∷ i) (literal_stands low text c i b literal h))
  wrong_within low _ _ _ _ (IsWrong.bad_char {c = c} {cs = cs} number comment quote) h = first_within low c cs h
  wrong_within low _ _ _ _ (IsWrong.open_comment {c = c} {cs = cs} comment) h =
      let k = first_within low c cs h in (omega (arith, k.0, k.1), omega arith)
  wrong_within low _ _ _ _ (IsWrong.open_text {quote = c} {cs = cs} opened none) h = from_first low (line_end high cs) c cs h (line_within c.end cs h.2)
  wrong_within low _ _ _ _ (IsWrong.bad_number {c = c} {cs = cs} number) h = from_first low (number_end c.end cs) c cs h (number_within c.end cs h.2)
  wrong_within low text _ _ _ (IsWrong.no_unit {inside = i} {behind = b} {quote = c} literal single means many) h =
      let k = literal_stands low text c i b literal h in from_first low (end_of c.end i) c i k (ends_within c.end high i k.2)

  fails_within : (low : ℕ) (text : List Character) (kind : FaultKind) (start end : ℕ) → Fails high text kind start end → Stand low high text → Within high start end
  fails_within low text kind start end (Fails.here none wrong) h = wrong_within low text kind start end wrong h
  fails_within low text kind start end (Fails.later {front = f} {behind = b} {e = e} next worse) h =
      fails_within low b kind start end worse (next_stands low high text e f b next h).1

pub fault_inside : (bytes : List ℕ) (kind : FaultKind) (start end : ℕ) → HasFault bytes kind start end → (start ≤ end) × (end ≤ length bytes)
fault_inside bytes _ _ _ (HasFault.not_utf8 {at = at} short) = (omega arith, omega (arith, short.short))
fault_inside bytes _ _ _ (HasFault.malformed {bad = bad} worse) =
    malformed_within (length bytes) 0 false (placed 0 (chars bytes)) bad worse.malformed (raw_stand bytes worse.utf8)
fault_inside bytes kind start end (HasFault.no_element characters decoded worse) =
    fails_within (length bytes) 0 characters kind start end worse (decoded_stand bytes characters decoded)
