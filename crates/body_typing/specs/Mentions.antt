-- What an expression mentions by itself, in reading order: simple names, and classes of which it makes objects (JLS
-- 6.5, 15.9). What stands in the body behind `new` is no part of it.
use Rattle.std.specs.Prelude.{List, [], ◌∷◌, ◌++◌}
use Rattle.je_base.specs.declared.span.Span.{Span}
use Rattle.je_ast.specs.declared.name.Identifier.{Identifier}
use Rattle.je_ast.specs.Trees.{Expression, Expressions}
use Rattle.je_ast.specs.Trees as tree
use Rattle.je_ast.specs.Types.{TypeName}

-- a name; a class that is named behind `new`; a class whose body stands behind `new`, by that word, with its type and
-- arguments
pub data Mention : Type 0 where
  named : Identifier → Mention
  made : TypeName → Mention
  made_with_body : Span → TypeName → Expressions → Mention

abbrev mutual
  pub mentions : Expression → List Mention
  mentions (tree.literal l span) = []
  mentions (tree.name id) = named id ∷ []
  mentions (tree.this span) = []
  mentions (tree.outer_this q word span) = []
  mentions (tree.parens e span) = mentions e
  mentions (tree.select e id span) = mentions e
  mentions (tree.super_select word id span) = []
  mentions (tree.call id es span) = all_mentions es
  mentions (tree.call_on e id es span) = mentions e ++ all_mentions es
  mentions (tree.super_call word id es span) = all_mentions es
  mentions (tree.index e i span) = mentions e ++ mentions i
  mentions (tree.new_object word t es span) = made t ∷ all_mentions es
  mentions (tree.new_anonymous word t es body span) = made_with_body word t es ∷ all_mentions es
  mentions (tree.new_array t es dims span) = all_mentions es
  mentions (tree.new_array_of t dims e span) = mentions e
  mentions (tree.array_init es span) = all_mentions es
  mentions (tree.cast t e span) = mentions e
  mentions (tree.prefix o at e span) = mentions e
  mentions (tree.postfix o at e span) = mentions e
  mentions (tree.binary o at e f span) = mentions e ++ mentions f
  mentions (tree.instance_of at e t span) = mentions e
  mentions (tree.conditional at e f g span) = mentions e ++ mentions f ++ mentions g
  mentions (tree.assign o at e f span) = mentions e ++ mentions f

  pub all_mentions : Expressions → List Mention
  all_mentions tree.no_expressions = []
  all_mentions (tree.more_expressions e es) = mentions e ++ all_mentions es
