-- The walk of `body_typing` at a place of a body, by what the code knows of it.
use Rattle.std.specs.Prelude.{List}
use Rattle.je_base.specs.declared.span.Span.{Span}
use Rattle.je_ast.specs.declared.operator.PrefixOp.{PrefixOp}
use Rattle.je_ast.specs.Spans.{span_of}
use Rattle.je_ast.specs.Trees.{Expression, Expressions}
use Rattle.je_scopes.specs.SourceTypes.{SourceType}
use Rattle.je_typing.specs.Arrays.{Part}
use Rattle.je_typing.specs.Judged.{Judged}
use Rattle.je_typing.specs.Typed.{TypedNode}
use Rattle.name_typing.specs.Qualified.{Qualifier}
use Rattle.body_typing.specs.Expressions as words
use Rattle.body_typing.specs.Expressions.{Purpose}
use Rattle.body_scopes.specs.View.{scope_seen}
use Rattle.body_scopes.specs.declared.scope.Scope.{Scope}
use Rattle.body_walks.specs.Walks.{known_in, program_in}
use Rattle.body_walks.specs.declared.bodies.Bodies.{Bodies}

-- an expression, by what it is for
abbrev pub expression_in : Bodies → Scope → Purpose → Expression → Judged TypedNode
expression_in b s purpose e = words.expression (program_in b) (known_in b) (scope_seen s) purpose e

abbrev pub value_in : Bodies → Scope → Purpose → Expression → Judged TypedNode
value_in b s purpose e = words.value (expression_in b s purpose e)

-- what stands before a point
abbrev pub before_in : Bodies → Scope → Expression → Judged Qualifier
before_in b s e = words.before (program_in b) (known_in b) (scope_seen s)
    (words.named_before (program_in b) (known_in b) (scope_seen s) e) (expression_in b s words.read e)

abbrev pub prefixed_in : Bodies → Scope → PrefixOp → Span → Expression → Span → Judged TypedNode
prefixed_in b s o at e span = words.or_else (words.negative_literal o e span)
    (words.prefixed (program_in b) (known_in b) (scope_seen s) o at (span_of e) (words.is_variable e) span
    (expression_in b s (words.prefix_purpose o) e))

-- lists of expressions, those of an array initializer by the type of the elements
abbrev pub values_in : Bodies → Scope → Expressions → Judged (List TypedNode)
values_in b s es = words.values (program_in b) (known_in b) (scope_seen s) es

abbrev pub lengths_in : Bodies → Scope → Expressions → Judged (List Part)
lengths_in b s es = words.parts (program_in b) (known_in b) (scope_seen s) es

abbrev pub elements_for_in : Bodies → Scope → SourceType → Expressions → Judged (List Part)
elements_for_in b s t es = words.elements_for (program_in b) (known_in b) (scope_seen s) t es

abbrev pub elements_behind : Bodies → Scope → SourceType → Expression → Judged (List Part)
elements_behind b s t e = words.elements_in (program_in b) (known_in b) (scope_seen s) t e
