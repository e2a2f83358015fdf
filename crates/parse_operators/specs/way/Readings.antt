-- The reading functions over what reads the height below, in a setting.
use Rattle.std.specs.Prelude.{ℕ, suc, nat_lt, Bool, true, List, Option, Some, if◌then◌else◌}
use Rattle.je_base.specs.declared.span.Span.{Span}
use Rattle.je_token.specs.declared.token.Token.{Token}
use Rattle.je_ast.specs.declared.operator.PrefixOp.{PrefixOp}
use Rattle.je_ast.specs.Types.{TypeName, primitive, class_type}
use Rattle.je_ast.specs.Trees.{Expression, Expressions}
use Rattle.je_token.specs.declared.keyword.Keyword.TheVariants as word
use Rattle.je_token.specs.declared.symbol.Symbol.TheVariants as symbol
use Rattle.je_ast.specs.declared.name.Identifier.{Identifier}
use Rattle.je_ast.specs.Trees as tree
use Rattle.je_ast.specs.Spans.{join, span_of}
use Rattle.je_grammar.specs.Context.{begins_operand}
use Rattle.parse_laws.specs.way.Tokens.{Read, ◌>>=◌, with, behind, behind_word, is_symbol, identifier_at}
use Rattle.parse_laws.specs.way.Types.{dims_at}
use Rattle.parse_laws.specs.way.Expressions.{Closed, Inside, makes_array_at}
use Rattle.parse_laws.specs.way.Expressions as reading
use Rattle.parse_below.specs.declared.settings.Setting.{Setting}
use Rattle.parse_below.specs.way.Readings.{below_at, body_at}

-- what needs nothing of the height below
-- "." id
abbrev pub selected_at : List Token → Read Identifier
selected_at ts = behind symbol.Dot ts >>= identifier_at

-- a primitive type, or else an operand begins behind the brackets
abbrev pub may_be_cast_at : TypeName → List Token → Bool
may_be_cast_at (primitive q n s) ts = true
may_be_cast_at (class_type q us n s) ts = begins_operand ts

-- behind the comma of "," "}", and else the tokens themselves
abbrev pub behind_lone_comma_at : List Token → List Token
behind_lone_comma_at ts = with (behind symbol.Comma ts) (λ rest. if is_symbol symbol.CloseBrace rest then rest else ts) ts

-- "super" "." id
abbrev pub behind_super_at : List Token → Read Identifier
behind_super_at ts = behind_word word.Super ts >>= behind symbol.Dot >>= identifier_at

abbrev pub more_arguments_at : Setting → ℕ → List Expression → List Token → Closed Expressions
more_arguments_at s n front ts = reading.more_arguments_at s.texts.now s.below (below_at s) (body_at s) n front ts

abbrev pub arguments_at : Setting → List Token → Closed Expressions
arguments_at s ts = reading.arguments_at s.texts.now s.below (below_at s) (body_at s) ts

abbrev pub length_at : Setting → List Token → Inside
length_at s ts = reading.length_at s.texts.now s.below (below_at s) (body_at s) ts

abbrev pub lengths_at : Setting → List Token → Closed Expressions
lengths_at s ts = reading.lengths_at s.texts.now s.below (below_at s) (body_at s) ts

abbrev pub filled_at : Setting → Span → TypeName → ℕ → List Token → Read Expression
filled_at s w t n ts = reading.filled_at s.texts.now s.below (below_at s) (body_at s) w t n ts

-- an array creation with these lengths, and the brackets behind them
abbrev pub empty_array_at : Span → TypeName → Expressions → Span → List Token → Expression × List Token
empty_array_at w t es c ts = let k = dims_at (join w c) ts in (tree.new_array t es k.0 k.1, k.2)

abbrev pub with_lengths_at : Setting → Span → TypeName → List Token → Read Expression
with_lengths_at s w t ts = lengths_at s ts >>= λ x. Some (empty_array_at w t x.0 x.1 x.2)

-- what stands behind the element type of an array creation
abbrev pub sized_at : Setting → Span → TypeName → List Token → Read Expression
sized_at s w t ts = let d = dims_at w ts in if nat_lt 0 d.0 then filled_at s w t d.0 d.2 else with_lengths_at s w t ts

abbrev pub array_at : Setting → Span → List Token → Read Expression
array_at s w ts = reading.array_at s.texts.now s.below (below_at s) (body_at s) w ts

abbrev pub object_at : Setting → Span → List Token → Read Expression
object_at s w ts = reading.object_at s.texts.now s.below (below_at s) (body_at s) w ts

-- what is created behind the word `new`, which has this span
abbrev pub created_at : Setting → Span → List Token → Read Expression
created_at s w ts = if makes_array_at ts then array_at s w ts else object_at s w ts

abbrev pub creation_at : Setting → List Token → Read Expression
creation_at s ts = reading.creation_at s.texts.now s.below (below_at s) (body_at s) ts

abbrev pub named_at : Setting → List Token → Read Expression
named_at s ts = reading.named_at s.texts.now s.below (below_at s) (body_at s) ts

abbrev pub super_member_at : Setting → List Token → Read Expression
super_member_at s ts = reading.super_member_at s.texts.now s.below (below_at s) (body_at s) ts

abbrev pub parens_at : Setting → List Token → Read Expression
parens_at s ts = reading.parens_at s.texts.now s.below (below_at s) (body_at s) ts

abbrev pub primary_at : Setting → List Token → Read Expression
primary_at s ts = reading.primary_at s.texts.now s.below (below_at s) (body_at s) ts

abbrev pub selections_at : Setting → ℕ → Expression → List Token → Expression × List Token
selections_at s n e ts = reading.selections_at s.texts.now s.below (below_at s) (body_at s) n e ts

abbrev pub increments_at : Setting → ℕ → Expression → List Token → Expression × List Token
increments_at s n e ts = reading.increments_at s.texts.now s.below (below_at s) (body_at s) n e ts

-- a call of this member of an expression where its arguments can be read, and else its selection
abbrev pub member_of_at : Setting → Expression → Identifier → List Token → Expression × List Token
member_of_at s e x ts = with (arguments_at s ts) (λ y. (tree.call_on e x y.0 (join (span_of e) y.1), y.2)) (tree.select e x (join (span_of e) x.span), ts)

-- selections and increments behind a primary
abbrev pub behind_primary_at : Setting → Expression → List Token → Expression × List Token
behind_primary_at s e ts = let y = selections_at s (suc s.below) e ts in increments_at s (suc s.below) y.0 y.1

abbrev pub postfix_at : Setting → List Token → Read Expression
postfix_at s ts = reading.postfix_at s.texts.now s.below (below_at s) (body_at s) ts

abbrev pub cast_at : Setting → List Token → Read Expression
cast_at s ts = reading.cast_at s.texts.now s.below (below_at s) (body_at s) ts

abbrev pub prefix_at : Setting → PrefixOp → Span → List Token → Read Expression
prefix_at s o a ts = reading.prefix_at s.texts.now s.below (below_at s) (body_at s) o a ts

abbrev pub unary_at : Setting → List Token → Read Expression
unary_at s ts = reading.unary_at s.texts.now s.below (below_at s) (body_at s) ts

abbrev pub operations_at : Setting → ℕ → ℕ → ℕ → Expression → List Token → Expression × List Token
operations_at s n least most e ts = reading.operations_at s.texts.now s.below (below_at s) (body_at s) n least most e ts

abbrev pub choices_at : Setting → List Token → Option (Expression × Expression × List Token)
choices_at s ts = reading.choices_at s.texts.now s.below (below_at s) (body_at s) ts

abbrev pub conditional_at : Setting → ℕ → Expression → List Token → Expression × List Token
conditional_at s least e ts = reading.conditional_at s.texts.now s.below (below_at s) (body_at s) least e ts

abbrev pub assignment_at : Setting → ℕ → Expression → List Token → Expression × List Token
assignment_at s least e ts = reading.assignment_at s.texts.now s.below (below_at s) (body_at s) least e ts

-- the operators behind an operand
abbrev pub behind_operand_at : Setting → ℕ → Expression → List Token → Expression × List Token
behind_operand_at s least e ts = let y = operations_at s (suc s.below) least 12 e ts in let z = conditional_at s least y.0 y.1 in assignment_at s least z.0 z.1

abbrev pub expression_layer : Setting → ℕ → List Token → Read Expression
expression_layer s least ts = reading.expression_layer s.texts.now s.below (below_at s) (body_at s) least ts

abbrev pub values_at : Setting → ℕ → List Expression → List Token → Closed Expressions
values_at s n front ts = reading.values_at s.texts.now s.below (below_at s) (body_at s) n front ts

abbrev pub array_initializer_layer : Setting → List Token → Read Expression
array_initializer_layer s ts = reading.array_initializer_layer s.texts.now s.below (below_at s) (body_at s) ts
