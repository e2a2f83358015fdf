-- What the reading of a file answers.
use Rattle.std.specs.Prelude.{◌≡◌, ℕ, ◌*◌, ◌<◌, ◌≤◌, length, drop}
use Rattle.je_base.specs.declared.span.Span.{Span}
use Rattle.je_ast.specs.declared.decl.Unit as node
use Rattle.je_ast.specs.Trees.{CompilationUnit}
use Rattle.je_ast.specs.View.{unit_view}
use Rattle.je_ast.specs.Height.{unit_height}
use Rattle.je_ast.specs.Size.{unit_size}
use Rattle.je_grammar.specs.Tokens.{first_span}
use Rattle.je_grammar.specs.Grammar.{SpellsUnit}
use Rattle.je_grammar.specs.Place.{IsSyntaxPlace}
use Rattle.je_lexer.specs.declared.file_tokens.Tokens.{Tokens}
use Rattle.parse_expr.specs.Answers.{max_height}
use Rattle.parse_expr.specs.declared.fault.ParseFault.{ParseFault}
use Rattle.parse_expr.specs.declared.fault.ParseFault.TheVariants as fault

-- The unit spells the file's tokens, and is low and small.
pub record IsUnitOf (f : Tokens) (u : node.Unit) : Type 0 where
  pub spelled : SpellsUnit f.names f.texts.items (unit_view u) f.list.items
  pub within : unit_height (unit_view u).declarations ≤ max_height
  pub small : unit_size (unit_view u).declarations ≤ 2 * length f.list.items

-- The token at the place is the first from the syntax place on.
pub record IsPlaceOf (f : Tokens) (place : ℕ) : Type 0 where
  pub is_place : IsSyntaxPlace f.names f.texts.items max_height f.list.items (drop place f.list.items)
  pub inside : place < length f.list.items

-- No unit spells the file's tokens, and the fault is the token at the syntax place.
pub record FailsAtPlace (f : Tokens) (span : Span) : Type 0 where
  pub none : (u : CompilationUnit) → SpellsUnit f.names f.texts.items u f.list.items → ¬ (unit_height u.declarations ≤ max_height)
  pub place : ℕ
  pub is_place : IsPlaceOf f place
  pub there : span ≡ first_span (drop place f.list.items)

-- why no unit is given
abbrev pub IsNoUnitOf : Tokens → ParseFault → Type 0
IsNoUnitOf f fault.Memory = Unit {0}
IsNoUnitOf f (fault.Syntax span) = FailsAtPlace f span
