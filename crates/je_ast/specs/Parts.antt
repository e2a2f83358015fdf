-- What stands in a list of the source trees, apart from its list: blocks, variables, labels, groups and catches. And lists and
-- options of trees as the trees have them.
use Rattle.std.specs.Prelude.{ℕ, Bool, List, [], ◌∷◌, Option, Some, None}
use Rattle.je_base.specs.declared.span.Span.{Span}
use Rattle.je_ast.specs.declared.name.Identifier.{Identifier}
use Rattle.je_ast.specs.Types.{QualifiedName}
use Rattle.je_ast.specs.Trees.{Expression, Expressions, MaybeExpression, Statement, Statements, Variables, Groups, Labels, Catches, Member, Members, MaybeBlock}
use Rattle.je_ast.specs.Trees as tree

pub record BlockPart : Type 0 where
  pub opening : Span
  pub stmts : Statements
  pub closing : Span

pub record VariablePart : Type 0 where
  pub name : Identifier
  pub dims : ℕ
  pub init : MaybeExpression

pub data LabelPart : Type 0 where
  case_part : Expression → LabelPart
  default_part : Span → LabelPart

pub record GroupPart : Type 0 where
  pub labels : Labels
  pub stmts : Statements

pub record CatchPart : Type 0 where
  pub is_final : Bool
  pub class : QualifiedName
  pub name : Identifier
  pub block : BlockPart

abbrev pub expressions : List Expression → Expressions
expressions [] = tree.no_expressions
expressions (e ∷ es) = tree.more_expressions e (expressions es)

abbrev pub maybe_expression : Option Expression → MaybeExpression
maybe_expression None = tree.no_expression
maybe_expression (Some e) = tree.an_expression e

abbrev pub statements : List Statement → Statements
statements [] = tree.no_statements
statements (b ∷ bs) = tree.more_statements b (statements bs)

abbrev pub variables : List VariablePart → Variables
variables [] = tree.no_variables
variables (v ∷ vs) = tree.more_variables v.name v.dims v.init (variables vs)

abbrev pub labels : List LabelPart → Labels
labels [] = tree.no_labels
labels (case_part e ∷ ls) = tree.case_label e (labels ls)
labels (default_part s ∷ ls) = tree.default_label s (labels ls)

abbrev pub groups : List GroupPart → Groups
groups [] = tree.no_groups
groups (g ∷ gs) = tree.more_groups g.labels g.stmts (groups gs)

abbrev pub catches : List CatchPart → Catches
catches [] = tree.no_catches
catches (c ∷ cs) = tree.more_catches c.is_final c.class c.name c.block.opening c.block.stmts c.block.closing (catches cs)

abbrev pub members : List Member → Members
members [] = tree.no_members
members (m ∷ ms) = tree.more_members m (members ms)

abbrev pub maybe_block : Option BlockPart → MaybeBlock
maybe_block None = tree.no_block
maybe_block (Some b) = tree.a_block b.opening b.stmts b.closing
