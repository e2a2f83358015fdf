-- The first fault of a program's files: that of the first file without tokens, or else of the first file that is no unit.
use Rattle.std.specs.Prelude.{◌≡◌, ℕ, ⊤, ◌<◌, List, ◌∷◌, ◌++◌, length, drop, All}
use Rattle.je_ast.specs.Trees.{CompilationUnit}
use Rattle.je_grammar.specs.Tokens.{first_span}
use Rattle.je_grammar.specs.Place.{IsSyntaxPlace}
use Rattle.je_lexer.specs.Lexing.{HasFault}
use Rattle.je_lexer.specs.declared.fault.FaultKind.{FaultKind}
use Rattle.host_text.specs.declared.finding.Finding.{Finding}
use Rattle.host_text.specs.declared.rules.Rule.TheVariants as rule
use Rattle.parse_expr.specs.Answers.{max_height}
use Rattle.source_units.specs.Files.{FileTokens, AreTokens, IsUnit}
use Rattle.source_units.specs.declared.refusal.Refusal.{Refusal}
use Rattle.source_units.specs.declared.refusal.Refusal.TheVariants as refusal

-- The file's bytes have this fault.
pub record IsTokenFault (file : ℕ) (bytes : List ℕ) (x : Finding) : Type 0 where
  pub kind : FaultKind
  pub is_rule : x.rule ≡ rule.Token kind
  pub is_file : x.span.file ≡ file
  pub there : HasFault bytes kind x.span.start x.span.end

-- The file is no unit, and the fault is the token at its syntax place.
pub record IsSyntaxFault (f : FileTokens) (x : Finding) : Type 0 where
  pub is_rule : x.rule ≡ rule.Syntax
  pub none : (u : CompilationUnit) → ¬ IsUnit f u
  pub place : ℕ
  pub is_place : IsSyntaxPlace f.names f.texts max_height f.list (drop place f.list)
  pub inside : place < length f.list
  pub there : x.span ≡ first_span (drop place f.list)

-- The files before have tokens, and this one has the fault.
pub record IsFirstTokenFault (files : List (List ℕ)) (x : Finding) : Type 0 where
  pub earlier : List (List ℕ)
  pub bytes : List ℕ
  pub later : List (List ℕ)
  pub parts : files ≡ earlier ++ bytes ∷ later
  pub tokens : List FileTokens
  pub lexed : AreTokens 0 earlier tokens
  pub fault : IsTokenFault (length earlier) bytes x

abbrev pub HasUnit : FileTokens → Type 0
HasUnit f = (u : CompilationUnit) × IsUnit f u

-- The files before are units, and this one has the fault.
pub record IsFirstSyntaxFault (fs : List FileTokens) (x : Finding) : Type 0 where
  pub earlier : List FileTokens
  pub file : FileTokens
  pub later : List FileTokens
  pub parts : fs ≡ earlier ++ file ∷ later
  pub read : All HasUnit earlier
  pub fault : IsSyntaxFault file x

-- A fault of the grammar is the first where all files have tokens.
pub data IsFirstFault (files : List (List ℕ)) (x : Finding) : Type 0 where
  of_tokens : IsFirstTokenFault files x → IsFirstFault files x
  of_syntax : {fs : List FileTokens} → AreTokens 0 files fs → IsFirstSyntaxFault fs x → IsFirstFault files x

-- A fault is one of these. Want of memory says nothing of the files.
abbrev pub IsRefusal : (Finding → Type 0) → Refusal → Type 0
IsRefusal P refusal.Memory = ⊤
IsRefusal P (refusal.Fault x) = P x
