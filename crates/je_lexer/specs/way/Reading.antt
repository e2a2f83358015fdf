-- What functions say of the tokens so far.
use Rattle.std.specs.Prelude.{◌≡◌, ℕ, ◌+◌, ◌<◌, ◌≤◌, List, [], ◌∷◌, ◌++◌, length, take, drop}
use Rattle.je_decode.specs.declared.character.Character.{Character}
use Rattle.je_token.specs.declared.token.Token.{Token}
use Rattle.je_lexer.specs.Elements.{Element, IsNext, BeginsNone}
use Rattle.je_lexer.specs.Faults.{IsWrong}
use Rattle.je_lexer.specs.Lexing.{Lexes, Fails}
use Rattle.je_lexer.specs.Tokens.{Gives}
use Rattle.je_lexer.specs.declared.fault.LexFault.{LexFault}
use Rattle.je_lexer.specs.declared.fault.LexFault.TheVariants as refusal
use Rattle.je_lexer.specs.declared.file_tokens.Tokens.{Tokens}

-- no tokens and no texts, and the empty text alone for a name
pub record IsFresh (tokens : Tokens) : Type 0 where
  pub list : tokens.list.items ≡ []
  pub names : tokens.names ≡ [] ∷ []
  pub texts : tokens.texts.items ≡ []

-- the n characters at the front are the next element; they are blank and change nothing, or are one token more
pub data Stepped (file : ℕ) (text : List Character) (n : ℕ) (before after : Tokens) : Type 0 where
  blank : IsNext text Element.Blank (take n text) (drop n text) → after.list.items ≡ before.list.items → after.names ≡ before.names →
      after.texts.items ≡ before.texts.items → Stepped file text n before after
  token : {e : Element} {t : Token} → IsNext text e (take n text) (drop n text) →
      Gives file before.names before.texts.items e (take n text) t after.names after.texts.items → after.list.items ≡ before.list.items ++ t ∷ [] →
      Stepped file text n before after

abbrev pub IsStep : ℕ → List Character → Tokens → Tokens → ℕ → Type 0
IsStep file text before after n = (0 < n) × (n ≤ length text) × Stepped file text n before after

-- Why no element begins at the text, unless memory ran out.
abbrev pub IsNoStep : ℕ → ℕ → List Character → LexFault → Type 0
IsNoStep file file_end text refusal.Memory = Unit {0}
IsNoStep file file_end text (refusal.At kind span) = (span.file ≡ file) × BeginsNone text × IsWrong file_end text kind span.start span.end

-- The characters' tokens without the one of kind End.
abbrev pub IsWhole : ℕ → List Character → Tokens → Type 0
IsWhole file characters tokens =
    Lexes file ([] ∷ []) [] characters tokens.list.items tokens.names tokens.texts.items × (length tokens.names ≤ length tokens.list.items + 1)

-- The characters' fault, unless memory ran out.
abbrev pub IsNoWhole : ℕ → ℕ → List Character → LexFault → Type 0
IsNoWhole file file_end characters refusal.Memory = Unit {0}
IsNoWhole file file_end characters (refusal.At kind span) = (span.file ≡ file) × Fails file_end characters kind span.start span.end
