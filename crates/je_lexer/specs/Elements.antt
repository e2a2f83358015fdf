-- JLS 3.5: the input elements of a source file: white space (3.6), comments (3.7), and tokens, which are words (3.8, 3.9, and the
-- words of 3.10.3 and 3.10.7), integer literals (3.10.1), character and string literals (3.10.4, 3.10.5), separators (3.11) and
-- operators (3.12). Nothing here says how an element is found in a text.
use Rattle.std.specs.Prelude.{◌≡◌, ◌<◌, ◌≤◌, ◌-◌, ℕ, Bool, false, ◌&&◌, ◌||◌, ◌==◌, List, [], ◌∷◌, ◌++◌, length, map, take, Some, All, IsTrue, IsFalse}
use Rattle.je_decode.specs.declared.character.Character.{Character}
use Rattle.je_lexer.specs.Characters as char
use Rattle.je_token.specs.Texts.{symbol_text}
use Rattle.je_token.specs.declared.symbol.Symbol.{Symbol}
use Rattle.je_lexer.specs.Classes.{is_space, ends_line, starts_name, continues_name, is_digit_below, begins_with, begins_with_digit, begins_as_name_part, tail}
use Rattle.je_lexer.specs.Numbers.{number, limit, is_floating}
use Rattle.je_lexer.specs.Texts.{Means}
use Rattle.je_lexer.specs.declared.numbers.Number.{Number}

-- What an input element is: white space or a comment, or a token with what it means.
pub data Element : Type 0 where
  Blank : Element
  Word : Element
  Sign : Symbol → Element
  Integer : Number → Element
  Char : ℕ → Element
  Text : List ℕ → Element

-- The characters end with `*/`, and no `*/` stands earlier in them.
pub data IsClosed : List Character → Type 0 where
  here : {star slash : Character} → star.code ≡ char.star → slash.code ≡ char.slash → IsClosed (star ∷ slash ∷ [])
  later : {c : Character} {cs : List Character} → IsFalse ((c.code == char.star) && begins_with char.slash cs) → IsClosed cs → IsClosed (c ∷ cs)

-- The characters end with the quote, and before it stand no line end, and no quote but behind a backslash. A backslash takes the
-- next character with it, which may be a backslash too.
pub data IsQuoted (quote : ℕ) : List Character → Type 0 where
  here : {c : Character} → c.code ≡ quote → IsQuoted quote (c ∷ [])
  plain : {c : Character} {cs : List Character} → IsFalse (ends_line c.code) → IsFalse (c.code == quote) → IsFalse (c.code == char.backslash) → IsQuoted quote cs →
      IsQuoted quote (c ∷ cs)
  escaped : {backslash c : Character} {cs : List Character} → backslash.code ≡ char.backslash → IsFalse (ends_line c.code) → IsQuoted quote cs →
      IsQuoted quote (backslash ∷ c ∷ cs)

-- what stands between a literal's quotes
abbrev pub body : List Character → List Character
body front = take (length front - 2) (tail front)

-- `/` before `*` is no operator, as a comment begins there, and `.` before a digit no separator, as a floating-point literal does
abbrev pub opens_other : List Character → List Character → Bool
opens_other (c ∷ []) behind = ((c.code == char.slash) && begins_with char.star behind) || ((c.code == char.point) && begins_with_digit 10 behind)
opens_other _ behind = false

-- The characters, before those behind them, are this input element, all of it and nothing more. White space is one character of
-- it or several.
pub data IsElement : Element → List Character → List Character → Type 0 where
  white_space : {c : Character} {cs behind : List Character} → All (λ d. IsTrue (is_space d.code)) (c ∷ cs) → IsElement Blank (c ∷ cs) behind
  line_comment : {first second : Character} {cs behind : List Character} → first.code ≡ char.slash → second.code ≡ char.slash → All (λ d. IsFalse (ends_line d.code)) cs →
      IsElement Blank (first ∷ second ∷ cs) behind
  comment : {slash star : Character} {cs behind : List Character} → slash.code ≡ char.slash → star.code ≡ char.star → IsClosed cs → IsElement Blank (slash ∷ star ∷ cs) behind
  word : {c : Character} {cs behind : List Character} → IsTrue (starts_name c.code) → All (λ d. IsTrue (continues_name d.code)) cs → IsElement Word (c ∷ cs) behind
  sign : {front behind : List Character} (s : Symbol) → map (λ c. c.code) front ≡ symbol_text s → IsFalse (opens_other front behind) →
      IsElement (Sign s) front behind
  integer : {c : Character} {cs behind : List Character} {i : Number} → IsTrue (is_digit_below 10 c.code) → number (c ∷ cs) ≡ Some i → i.value < limit i →
      IsFalse (begins_as_name_part behind) → IsFalse (is_floating i (c ∷ cs) behind) → IsElement (Integer i) (c ∷ cs) behind
  char_literal : {quote : Character} {cs behind : List Character} {unit : ℕ} → quote.code ≡ char.single_quote → IsQuoted char.single_quote cs → Means (body (quote ∷ cs)) (unit ∷ []) →
      IsElement (Char unit) (quote ∷ cs) behind
  text_literal : {quote : Character} {cs behind : List Character} {units : List ℕ} → quote.code ≡ char.double_quote → IsQuoted char.double_quote cs → Means (body (quote ∷ cs)) units →
      IsElement (Text units) (quote ∷ cs) behind

-- The text begins with `front`, which is this element, and no longer front of the text is an element.
pub record IsNext (text : List Character) (e : Element) (front behind : List Character) : Type 0 where
  pub parts : text ≡ front ++ behind
  pub element : IsElement e front behind
  pub longest : (other : Element) (ahead left : List Character) → text ≡ ahead ++ left → IsElement other ahead left → length ahead ≤ length front

-- No element begins here.
abbrev pub BeginsNone : List Character → Type 0
BeginsNone text = (e : Element) (front behind : List Character) → text ≡ front ++ behind → ¬ IsElement e front behind
