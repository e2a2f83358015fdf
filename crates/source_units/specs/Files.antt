-- JLS 3.5 and 7.3: the tokens of a program's files, and the unit that they spell.
use Rattle.std.specs.Prelude.{ℕ, suc, ◌≤◌, List, [], ◌∷◌, map, Vec}
use Rattle.std.specs.declared.alloc.Global.{Global}
use Rattle.je_token.specs.declared.token.Token.{Token}
use Rattle.je_ast.specs.Trees.{CompilationUnit}
use Rattle.je_ast.specs.Height.{unit_height}
use Rattle.je_grammar.specs.Grammar.{SpellsUnit}
use Rattle.je_lexer.specs.Lexing.{HasTokens}
use Rattle.je_lexer.specs.declared.file_tokens.Tokens.{Tokens}
use Rattle.parse_expr.specs.Answers.{max_height}

-- files in memory, as their bytes
abbrev pub bytes_of : List (Vec ℕ Global) → List (List ℕ)
bytes_of files = map (λ file. file.items) files

-- a file's tokens, the texts of its names, and the units of its string literals
pub record FileTokens : Type 0 where
  pub list : List Token
  pub names : List (List ℕ)
  pub texts : List (List ℕ)

-- tokens in memory
abbrev pub file_tokens : Tokens → FileTokens
file_tokens t = record { list = t.list.items; names = t.names; texts = t.texts.items }

-- These are the tokens of the files, in order, where the first file has this number.
pub data AreTokens : ℕ → List (List ℕ) → List FileTokens → Type 0 where
  no_files : {n : ℕ} → AreTokens n [] []
  more_files : {n : ℕ} {bytes : List ℕ} {files : List (List ℕ)} {f : FileTokens} {fs : List FileTokens} →
      HasTokens n bytes f.list f.names f.texts → AreTokens (suc n) files fs → AreTokens n (bytes ∷ files) (f ∷ fs)

-- The unit spells the tokens of the file, and its declarations are at most as high as the parser reads.
pub record IsUnit (f : FileTokens) (u : CompilationUnit) : Type 0 where
  pub spelled : SpellsUnit f.names f.texts u f.list
  pub within : unit_height u.declarations ≤ max_height
