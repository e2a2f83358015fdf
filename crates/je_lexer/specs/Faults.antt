-- What stands where no input element begins (JLS 3.5), one case a kind of fault.
use Rattle.std.specs.Prelude.{◌≡◌, ◌≢◌, ℕ, Bool, ◌&&◌, ◌||◌, ◌==◌, List, ◌∷◌, ◌++◌, length, IsTrue, IsFalse}
use Rattle.je_decode.specs.declared.character.Character.{Character}
use Rattle.je_lexer.specs.Characters as char
use Rattle.je_lexer.specs.Classes.{is_digit_below, is_quote, begins_with, begins_with_digit}
use Rattle.je_lexer.specs.Elements.{IsQuoted, body}
use Rattle.je_lexer.specs.Spans.{end_of, line_end, number_end}
use Rattle.je_lexer.specs.Texts.{Means, HasBadBackslash}
use Rattle.je_lexer.specs.declared.fault.FaultKind.{FaultKind}
use Rattle.je_lexer.specs.declared.fault.FaultKind.TheVariants as fault

-- a digit, or a point and a digit
abbrev pub begins_number : Character → List Character → Bool
begins_number c cs = is_digit_below 10 c.code || ((c.code == char.point) && begins_with_digit 10 cs)

abbrev pub begins_comment : Character → List Character → Bool
begins_comment c cs = (c.code == char.slash) && begins_with char.star cs

-- A character or string literal that begins with this quote is closed, up to what stands behind it.
pub record IsLiteral (text : List Character) (quote : Character) (inside behind : List Character) : Type 0 where
  pub parts : text ≡ (quote ∷ inside) ++ behind
  pub opened : IsTrue (is_quote quote.code)
  pub closed : IsQuoted quote.code inside

-- No element begins at this text, for this reason, from this byte to that.
pub data IsWrong (file_end : ℕ) : List Character → FaultKind → ℕ → ℕ → Type 0 where
  bad_escape : {text inside behind : List Character} {quote bad : Character} → IsLiteral text quote inside behind → HasBadBackslash (body (quote ∷ inside)) bad →
      IsWrong file_end text fault.BadEscape bad.start bad.end
  bad_char : {c : Character} {cs : List Character} → IsFalse (begins_number c cs) → IsFalse (begins_comment c cs) → IsFalse (is_quote c.code) →
      IsWrong file_end (c ∷ cs) fault.BadChar c.start c.end
  open_comment : {c : Character} {cs : List Character} → IsTrue (begins_comment c cs) → IsWrong file_end (c ∷ cs) fault.OpenComment c.start file_end
  open_text : {quote : Character} {cs : List Character} → IsTrue (is_quote quote.code) →
      ((inside behind : List Character) → ¬ IsLiteral (quote ∷ cs) quote inside behind) →
      IsWrong file_end (quote ∷ cs) fault.OpenText quote.start (line_end file_end cs)
  bad_number : {c : Character} {cs : List Character} → IsTrue (begins_number c cs) → IsWrong file_end (c ∷ cs) fault.BadLiteral c.start (number_end c.end cs)
  no_unit : {text inside behind : List Character} {quote : Character} {units : List ℕ} → IsLiteral text quote inside behind → quote.code ≡ char.single_quote →
      Means (body (quote ∷ inside)) units → length units ≢ 1 → IsWrong file_end text fault.BadLiteral quote.start (end_of quote.end inside)
