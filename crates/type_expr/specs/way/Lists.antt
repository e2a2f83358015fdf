-- Expressions of one purpose with their spans: the parts of a list, and the elements of an array initializer.
use Rattle.std.specs.Prelude.{List, [], ◌∷◌}
use Rattle.je_ast.specs.Spans.{span_of}
use Rattle.je_ast.specs.Trees.{Expressions}
use Rattle.je_ast.specs.Trees as tree
use Rattle.je_typing.specs.Arrays.{Part}
use Rattle.je_typing.specs.Judged.{Judged, gives, ◌>>=◌}
use Rattle.body_typing.specs.Expressions.{Purpose, part}
use Rattle.body_scopes.specs.declared.scope.Scope.{Scope}
use Rattle.body_walks.specs.declared.bodies.Bodies.{Bodies}
use Rattle.type_expr.specs.Walk.{value_in}

abbrev pub parts_in : Bodies → Scope → Purpose → Expressions → Judged (List Part)
parts_in b s purpose tree.no_expressions = gives []
parts_in b s purpose (tree.more_expressions e es) = do
  t ← value_in b s purpose e
  ts ← parts_in b s purpose es
  gives (part (span_of e) t ∷ ts)
