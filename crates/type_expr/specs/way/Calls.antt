-- A call on what stands before a point, as one word: what it computes to is long.
use Rattle.je_base.specs.declared.span.Span.{Span}
use Rattle.je_ast.specs.declared.name.Identifier.{Identifier}
use Rattle.je_ast.specs.Trees.{Expression, Expressions, call_on}
use Rattle.je_typing.specs.Judged.{Judged}
use Rattle.je_typing.specs.Typed.{TypedNode}
use Rattle.body_typing.specs.Expressions.{read}
use Rattle.body_scopes.specs.declared.scope.Scope.{Scope}
use Rattle.body_walks.specs.declared.bodies.Bodies.{Bodies}
use Rattle.type_expr.specs.Walk.{expression_in}

unfoldable pub called_on : Bodies → Scope → Expression → Identifier → Expressions → Span → Judged TypedNode
called_on b s e id es span = expression_in b s read (call_on e id es span)
