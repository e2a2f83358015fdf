-- Some texts that are input elements, some that are none, and what stands where none begins.
use Rattle.std.proofs.Common.{◌≡◌, ℕ, true, false, List, [], ◌∷◌, map, codes, ◌+◌, ◌++◌, drop, refl, sym, subst, ◌∙◌, arith, true≢false}
use Rattle.std.specs.Str.{bytes_eq}
use Rattle.std.proofs.lemmas.List.Elements.{All-nil, All-cons}
use Rattle.std.proofs.lemmas.Slice.Eq.{bytes_eq-Decides}
use Rattle.je_decode.specs.declared.character.Character.{Character}
use Rattle.je_token.specs.Texts.{symbol_text}
use Rattle.je_token.specs.declared.symbol.Symbol.{Symbol}
use Rattle.je_token.specs.declared.symbol.Symbol.TheVariants as symbol
use Rattle.je_lexer.specs.Classes.{ends_line, continues_name, begins_with}
use Rattle.je_lexer.specs.Elements.{Element, IsClosed, IsQuoted, IsElement, opens_other}
use Rattle.je_lexer.specs.Faults.{IsLiteral, IsWrong}
use Rattle.je_lexer.specs.Numbers.{number, goes_on, is_floating}
use Rattle.je_lexer.specs.Spans.{number_end}
use Rattle.je_lexer.specs.Texts.{text_piece, escape_piece, Means}
use Rattle.je_lexer.specs.declared.fault.FaultKind.TheVariants as fault
use Rattle.je_lexer.specs.declared.numbers.Number.{Number}
use Rattle.je_lexer.specs.way.Runs.{literal_run}
use Rattle.je_lexer.proofs.ElementClasses.{ascii_starts, ascii_continues}
use Rattle.je_lexer.proofs.Literals.{quoted_last}

-- where the character stands does not matter
abbrev placed : ℕ → Character
placed code = record { code = code; start = 0; end = 0 }

abbrev text_of : List ℕ → List Character
text_of codes = map placed codes

empty_comment : IsElement Element.Blank (text_of (codes "/**/")) []
empty_comment = IsElement.comment refl refl (IsClosed.here refl refl)

stars : IsElement Element.Blank (text_of (codes "/***/")) []
stars = IsElement.comment refl refl (IsClosed.later refl (IsClosed.here refl refl))

line : IsElement Element.Blank (text_of (codes "// x")) []
line =
    let P : Character → Type 0 = λ d. ends_line d.code ≡ false in
    IsElement.line_comment refl refl (All-cons P (placed 32) (placed 120 ∷ []) refl (All-cons P (placed 120) [] refl (All-nil P)))

string : IsElement (Element.Text (97 ∷ [])) (text_of (codes "\"a\"")) []
unfolding text_piece
string = IsElement.text_literal refl (IsQuoted.plain refl refl refl (IsQuoted.here refl)) (Means.more refl Means.done)

escaped_quote : IsElement (Element.Char 39) (text_of (codes "'\\''")) []
unfolding text_piece escape_piece
escaped_quote = IsElement.char_literal refl (IsQuoted.escaped refl refl (IsQuoted.here refl)) (Means.more refl Means.done)

abbrev hexadecimal_long : Number
hexadecimal_long = record { decimal = false; long = true; value = 31 }

hexadecimal : IsElement (Element.Integer hexadecimal_long) (text_of (codes "0x1FL")) (text_of (codes ".foo"))
unfolding number goes_on
hexadecimal = IsElement.integer refl refl (omega arith) (ascii_continues 46 (omega arith)) refl

-- Java reads a floating-point literal there
abbrev one : Number
one = record { decimal = true; long = false; value = 1 }

floating : is_floating one (text_of (codes "1")) (text_of (codes ".foo")) ≡ true
unfolding goes_on
floating = refl

no_floating : is_floating (record { decimal = false; long = false; value = 1 }) (text_of (codes "0x1")) (text_of (codes ".foo")) ≡ false
unfolding goes_on
no_floating = refl

shift : IsElement (Element.Sign symbol.UnsignedShiftRightAssign) (text_of (codes ">>>=")) []
shift = IsElement.sign symbol.UnsignedShiftRightAssign refl refl

-- a comment begins at a `/` before a `*`, and a number at a point before a digit
open_slash : opens_other (text_of (codes "/")) (text_of (codes "*/")) ≡ true
open_slash = refl

open_point : opens_other (text_of (codes ".")) (text_of (codes "5")) ≡ true
open_point = refl

-- ---- texts that are none

-- a `/` closes no comment that its `*` opens
open_comment : (e : Element) → ¬ IsElement e (text_of (codes "/*/")) []
open_comment _ (IsElement.white_space h) = true≢false (sym (h 0 (placed 47) (omega arith)))
open_comment _ (IsElement.line_comment first second h) = absurd (omega arith)
open_comment _ (IsElement.comment slash star (IsClosed.later apart h)) = elim h [ ]
open_comment _ (IsElement.word starts h) = true≢false (sym starts ∙ ascii_starts 47 (omega arith))
open_comment _ (IsElement.integer digit is small ends whole) = true≢false (sym digit)
open_comment _ (IsElement.char_literal quote h means) = absurd (omega arith)
open_comment _ (IsElement.text_literal quote h means) = absurd (omega arith)
open_comment _ (IsElement.sign s e alone) = true≢false (sym ((bytes_eq-Decides (codes "/*/") (symbol_text s)).1 e) ∙ no_symbol s)
  where
    no_symbol : (s : Symbol) → bytes_eq (codes "/*/") (symbol_text s) ≡ false
    no_symbol symbol.Not = refl
    no_symbol s = refl

-- a literal ends at its first quote
past_its_quote : (e : Element) → ¬ IsElement e (text_of (codes "\"\"a\"")) []
past_its_quote _ (IsElement.white_space h) = true≢false (sym (h 0 (placed 34) (omega arith)))
past_its_quote _ (IsElement.line_comment first second h) = absurd (omega arith)
past_its_quote _ (IsElement.comment slash star h) = absurd (omega arith)
past_its_quote _ (IsElement.word starts h) = true≢false (sym starts ∙ ascii_starts 34 (omega arith))
past_its_quote _ (IsElement.integer digit is small ends whole) = true≢false (sym digit)
past_its_quote _ (IsElement.char_literal quote h means) = absurd (omega arith)
past_its_quote _ (IsElement.text_literal quote (IsQuoted.plain line other free h) means) = true≢false other
past_its_quote _ (IsElement.text_literal quote (IsQuoted.escaped e line h) means) = absurd (omega arith)
past_its_quote _ (IsElement.sign s e alone) = true≢false (sym ((bytes_eq-Decides (codes "\"\"a\"") (symbol_text s)).1 e) ∙ no_symbol s)
  where
    no_symbol : (s : Symbol) → bytes_eq (codes "\"\"a\"") (symbol_text s) ≡ false
    no_symbol symbol.Not = refl
    no_symbol s = refl

-- ---- faults

-- a character of one byte
abbrev at : ℕ → ℕ → Character
at start code = record { code = code; start = start; end = start + 1 }

-- `1.5+` is a fault of three characters
bad_number : IsWrong 4 (at 0 49 ∷ at 1 46 ∷ at 2 53 ∷ at 3 43 ∷ []) fault.BadLiteral 0 3
bad_number =
    let five : continues_name 53 ≡ true = ascii_continues 53 (omega arith) in
    let plus : continues_name 43 ≡ false = ascii_continues 43 (omega arith) in
    let point : continues_name 46 ≡ false = ascii_continues 46 (omega arith) in
    let end : number_end 1 (at 1 46 ∷ at 2 53 ∷ at 3 43 ∷ []) ≡ 3 = rw (point, five, plus) refl in
    let P : ℕ → Type 0 = λ n. IsWrong 4 (at 0 49 ∷ at 1 46 ∷ at 2 53 ∷ at 3 43 ∷ []) fault.BadLiteral 0 n in
    subst P end (IsWrong.bad_number refl)

-- `#` is a fault of one
bad_char : IsWrong 1 (at 0 35 ∷ []) fault.BadChar 0 1
bad_char = IsWrong.bad_char refl refl refl

-- `/*/` is one to the file's end
open_comment_fault : IsWrong 3 (at 0 47 ∷ at 1 42 ∷ at 2 47 ∷ []) fault.OpenComment 0 3
open_comment_fault = IsWrong.open_comment refl

-- `"a` and a line end is one to the line's end
open_text_fault : IsWrong 4 (at 0 34 ∷ at 1 97 ∷ at 2 10 ∷ at 3 34 ∷ []) fault.OpenText 0 2
open_text_fault = IsWrong.open_text refl none
  where
    none : (inside behind : List Character) → ¬ IsLiteral (at 0 34 ∷ at 1 97 ∷ at 2 10 ∷ at 3 34 ∷ []) (at 0 34) inside behind
    none inside behind h = true≢false (sym (quoted_last 34 refl inside behind h.closed) ∙ by inside behind h.parts)
      where
        by : (inside behind : List Character) → at 0 34 ∷ at 1 97 ∷ at 2 10 ∷ at 3 34 ∷ [] ≡ (at 0 34 ∷ inside) ++ behind →
            begins_with 34 (drop (literal_run 34 false (inside ++ behind)) (inside ++ behind)) ≡ false
        by inside behind parts =
            let rest : inside ++ behind ≡ at 1 97 ∷ at 2 10 ∷ at 3 34 ∷ [] = cc in rw rest refl
