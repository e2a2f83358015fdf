-- The clauses of a `try` that catch (JLS 14.20), judged behind all blocks of their statement.
use Rattle.std.specs.Prelude.{ℕ, List, [], ◌∷◌}
use Rattle.je_base.specs.declared.span.Span.{Span}
use Rattle.je_core.specs.Core.{CoreCatches, CoreStmt, catch, more_catches, no_catches}
use Rattle.je_ast.specs.declared.name.Identifier.{Identifier}
use Rattle.je_ast.specs.Types.{QualifiedName, TypeName, class_type, no_types}
use Rattle.je_scopes.specs.SourceTypes.{SourceType}
use Rattle.source_types.specs.Heads.{ClassHead}
use Rattle.je_typing.specs.Judged.{Judged, gives, ◌>>=◌, ◌>>◌}
use Rattle.statement_steps.specs.Thrown.{caught_class}
use Rattle.body_typing.specs.FinalVariables.{Scope}
use Rattle.body_typing.specs.LocalVariables.{new_name}

-- the name of the class as a type
abbrev pub caught_name : QualifiedName → TypeName
caught_name q = class_type q no_types 0 q.span

-- a clause whose block is walked: its local by name and number, the type that is written and where, and its block
pub record Clause : Type 0 where
  pub name : Identifier
  pub number : ℕ
  pub type : SourceType
  pub name_span : Span
  pub body : CoreStmt

-- where the `try` stands
module _ (heads : List ClassHead) (s : Scope) where
  abbrev pub clauses : List Clause → Judged CoreCatches
  clauses [] = gives no_catches
  clauses (c ∷ cs) = do
    new_name s c.name
    class ← caught_class heads c.name_span c.type
    rest ← clauses cs
    gives (more_catches (catch c.number class c.name_span c.body) rest)
