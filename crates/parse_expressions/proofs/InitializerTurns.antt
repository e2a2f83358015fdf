-- What stands in the brackets of an array initializer.
use Rattle.std.proofs.Common.{◌≡◌, Some, None, List, [], length, refl}
use Rattle.je_base.specs.declared.span.Span.{Span}
use Rattle.je_token.specs.declared.symbol.Symbol.TheVariants as symbol
use Rattle.je_token.specs.declared.token.Token.{Token}
use Rattle.je_ast.specs.Trees.{Expressions}
use Rattle.je_ast.specs.Trees as tree
use Rattle.je_ast.specs.Spans.{join}
use Rattle.je_grammar.specs.Tokens.{first_span}
use Rattle.parse_laws.specs.way.Tokens.{behind}
use Rattle.parse_laws.specs.way.Expressions as reading
use Rattle.parse_below.specs.declared.settings.Setting.{Setting}
use Rattle.parse_operators.specs.way.Readings.{behind_lone_comma_at, values_at, array_initializer_layer}

pub initializer_unopened : (s : Setting) (ts : List Token) → behind symbol.OpenBrace ts ≡ None → array_initializer_layer s ts ≡ None
unfolding reading.array_initializer_layer
initializer_unopened s ts none = rw none refl

pub initializer_unread : (s : Setting) (ts inside : List Token) → behind symbol.OpenBrace ts ≡ Some inside →
    values_at s (length inside) [] (behind_lone_comma_at inside) ≡ None → array_initializer_layer s ts ≡ None
unfolding reading.array_initializer_layer reading.behind_lone_comma
initializer_unread s ts inside opened none = rw (opened, none) refl

pub initializer_read : (s : Setting) (ts inside rest : List Token) (es : Expressions) (close : Span) → behind symbol.OpenBrace ts ≡ Some inside →
    values_at s (length inside) [] (behind_lone_comma_at inside) ≡ Some (es, close, rest) →
    array_initializer_layer s ts ≡ Some (tree.array_init es (join (first_span ts) close), rest)
unfolding reading.array_initializer_layer reading.behind_lone_comma
initializer_read s ts inside rest es close opened values = rw (opened, values) refl
