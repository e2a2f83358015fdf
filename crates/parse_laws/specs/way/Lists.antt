-- The trees' lists, from lists of trees.
use Rattle.std.specs.Prelude.{List, [], ◌∷◌, ℕ}
use Rattle.je_ast.specs.declared.name.Identifier.{Identifier}
pub use Rattle.je_ast.specs.Parts.{expressions, statements, members}
use Rattle.je_ast.specs.Trees.{MaybeExpression, Variables}
use Rattle.je_ast.specs.Trees as tree

-- a variable's name, how many bracket pairs follow it, and its initializer
pub record VariableTree : Type 0 where
  pub name : Identifier
  pub dims : ℕ
  pub init : MaybeExpression

abbrev pub variables : List VariableTree → Variables
variables [] = tree.no_variables
variables (v ∷ vs) = tree.more_variables v.name v.dims v.init (variables vs)
