-- What is cut at the front of a text: white space or a comment, a token, or a fault; and what element or fault that is.
use Rattle.std.specs.Prelude.{◌≡◌, ◌≢◌, ℕ, true, suc, ◌+◌, false, ◌&&◌, ◌||◌, ◌==◌, List, [], ◌∷◌, length, take, drop, Option, Some, None, if◌then◌else◌}
use Rattle.je_decode.specs.declared.character.Character.{Character}
use Rattle.je_lexer.specs.Characters as char
use Rattle.je_token.specs.Texts.{symbol_text}
use Rattle.je_token.specs.declared.symbol.Symbol.{Symbol}
use Rattle.je_lexer.specs.Spans.{start_of, end_of}
use Rattle.je_lexer.specs.Elements.{Element, body}
use Rattle.je_lexer.specs.Texts.{Means, HasBadBackslash}
use Rattle.je_lexer.specs.Classes.{is_space, starts_name, is_digit_below, begins_with, begins_with_digit, tail}
use Rattle.je_lexer.specs.way.Numbers.{number_before}
use Rattle.je_lexer.specs.way.Runs.{space_run, name_run, number_run, line_run, comment_run, literal_run}
use Rattle.je_lexer.specs.way.Symbols.{symbol_at}
use Rattle.je_lexer.specs.declared.cutting.Cut.{Cut}
use Rattle.je_lexer.specs.declared.cutting.Cut.TheVariants as cut
use Rattle.je_lexer.specs.declared.fault.FaultKind.{FaultKind}
use Rattle.je_lexer.specs.declared.fault.FaultKind.TheVariants as kind
use Rattle.je_lexer.specs.declared.numbers.Number.{Number}

-- up to the end of the longest run of identifier characters and points
unfoldable pub bad_number : Character → List Character → Cut
bad_number c cs = cut.Fault kind.BadLiteral c.start (end_of c.end (take (number_run cs) cs))

abbrev pub if_number : Cut → Option Number → ℕ → Cut
if_number fault None len = fault
if_number fault (Some n) len = cut.Number n len

unfoldable pub number_cut : Character → List Character → Cut
number_cut c cs = if_number (bad_number c cs) (number_before (drop (name_run cs) cs) (take (suc (name_run cs)) (c ∷ cs))) (suc (name_run cs))

-- c is the quote
unfoldable pub literal_cut : ℕ → Character → List Character → Cut
literal_cut file_end c cs =
    if begins_with c.code (drop (literal_run c.code false cs) cs) then cut.Literal (literal_run c.code false cs + 2)
    else cut.Fault kind.OpenText c.start (start_of file_end (drop (literal_run c.code false cs) cs))

-- cs stands behind `/*`
unfoldable pub comment_cut : ℕ → Character → List Character → Cut
comment_cut file_end c cs =
    if begins_with char.star (drop (comment_run cs) cs) && begins_with char.slash (tail (drop (comment_run cs) cs)) then cut.Blank (comment_run cs + 4) else cut.Fault kind.OpenComment c.start file_end

abbrev pub if_symbol : Character → Option Symbol → Cut
if_symbol c None = cut.Fault kind.BadChar c.start c.end
if_symbol c (Some s) = cut.Symbol s (length (symbol_text s))

unfoldable pub cut_at : ℕ → Character → List Character → Cut
cut_at file_end c cs =
    if is_space c.code then cut.Blank (suc (space_run cs))
    else if starts_name c.code then cut.Word (suc (name_run cs))
    else if is_digit_below 10 c.code then number_cut c cs
    else if (c.code == char.point) && begins_with_digit 10 cs then bad_number c cs
    else if (c.code == char.double_quote) || (c.code == char.single_quote) then literal_cut file_end c cs
    else if (c.code == char.slash) && begins_with char.slash cs then cut.Blank (suc (line_run cs))
    else if (c.code == char.slash) && begins_with char.star cs then comment_cut file_end c (tail cs)
    else if_symbol c (symbol_at (c ∷ cs))

-- how many characters are cut
abbrev pub cut_len : Cut → Option ℕ
cut_len (cut.Blank n) = Some n
cut_len (cut.Word n) = Some n
cut_len (cut.Symbol s n) = Some n
cut_len (cut.Number number n) = Some n
cut_len (cut.Literal n) = Some n
cut_len (cut.Fault kind start end) = None

-- the characters that are cut, if any are
abbrev pub front_of : Option ℕ → List Character → List Character
front_of None text = []
front_of (Some n) text = take n text

-- What is cut, with its characters, is this element.
pub data IsOf : Cut → List Character → Element → Type 0 where
  blank : {n : ℕ} {front : List Character} → IsOf (cut.Blank n) front Element.Blank
  word : {n : ℕ} {front : List Character} → IsOf (cut.Word n) front Element.Word
  sign : {s : Symbol} {n : ℕ} {front : List Character} → IsOf (cut.Symbol s n) front (Element.Sign s)
  integer : {i : Number} {n : ℕ} {front : List Character} → IsOf (cut.Number i n) front (Element.Integer i)
  char_literal : {n unit : ℕ} {front : List Character} → begins_with char.single_quote front ≡ true → Means (body front) (unit ∷ []) → IsOf (cut.Literal n) front (Element.Char unit)
  text_literal : {n : ℕ} {front : List Character} {units : List ℕ} → begins_with char.single_quote front ≡ false → Means (body front) units →
      IsOf (cut.Literal n) front (Element.Text units)

-- What is cut, with its characters, is no element, for this reason, from this byte to that.
pub data IsBad : Cut → List Character → FaultKind → ℕ → ℕ → Type 0 where
  uncut : {k : FaultKind} {start end : ℕ} {front : List Character} → IsBad (cut.Fault k start end) front k start end
  bad_escape : {n : ℕ} {front : List Character} {bad : Character} → HasBadBackslash (body front) bad → IsBad (cut.Literal n) front kind.BadEscape bad.start bad.end
  no_unit : {n : ℕ} {front : List Character} {units : List ℕ} → begins_with char.single_quote front ≡ true → Means (body front) units → length units ≢ 1 →
      IsBad (cut.Literal n) front kind.BadLiteral (start_of 0 front) (end_of 0 front)
