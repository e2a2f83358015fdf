-- Reading expressions, one definition for each function of the parser, over what reads the height below.
use Rattle.std.specs.Prelude.{ℕ, zero, suc, ◌+◌, nat_lt, Bool, true, false, ◌||◌, ℤ, pos, List, [], ◌∷◌, ◌++◌, length, Option, Some, None, if◌then◌else◌, slice_get}
use Rattle.je_base.specs.declared.span.Span.{Span}
use Rattle.je_token.specs.declared.keyword.Keyword.TheVariants as word
use Rattle.je_token.specs.declared.symbol.Symbol.TheVariants as symbol
use Rattle.je_token.specs.declared.token.Token.{Token}
use Rattle.je_token.specs.declared.token.TokenKind.{TokenKind}
use Rattle.je_token.specs.declared.token.TokenKind.TheVariants as kind
use Rattle.je_ast.specs.declared.expr.Literal.{Literal}
use Rattle.je_ast.specs.declared.expr.Literal.TheVariants as lit
use Rattle.je_ast.specs.declared.name.Identifier.{Identifier}
use Rattle.je_ast.specs.declared.operator.BinaryOp.{BinaryOp}
use Rattle.je_ast.specs.declared.operator.BinaryOp.TheVariants as op
use Rattle.je_ast.specs.declared.operator.PrefixOp.{PrefixOp}
use Rattle.je_ast.specs.declared.operator.PrefixOp.TheVariants as prefix_op
use Rattle.je_ast.specs.declared.operator.PostfixOp.{PostfixOp}
use Rattle.je_ast.specs.declared.operator.PostfixOp.TheVariants as postfix_op
use Rattle.je_ast.specs.Types.{TypeName, primitive, class_type}
use Rattle.je_ast.specs.Trees.{Expression, Expressions, Member, Members}
use Rattle.je_ast.specs.Trees as tree
use Rattle.je_ast.specs.Height.{height}
use Rattle.je_ast.specs.Spans.{join, span_of, type_span}
use Rattle.je_grammar.specs.Tokens.{first_span}
use Rattle.je_grammar.specs.Operators.{level, operator_level}
use Rattle.je_grammar.specs.Context.{begins_operand, is_bare_creation}
use Rattle.parse_laws.specs.way.Tokens.{Read, ◌>>=◌, with, is_some, behind, behind_word, is_symbol, is_word, is_identifier, identifier_at}
use Rattle.parse_laws.specs.way.Types.{name_at, past_name_at, primitive_at, dims_at, element_at, plain_type_at, reference_at, is_cast_at}
use Rattle.parse_laws.specs.way.Below.{Below}
use Rattle.parse_laws.specs.way.Lists.{expressions}

-- an expression in brackets, of which the closing one is this symbol
abbrev pub Inside : Type 0
Inside = Option (Expression × Span × List Token)

-- items up to their closing bracket
abbrev pub Closed : Type 0 → Type 0
Closed A = Option (A × Span × List Token)

abbrev pub literal_kind : List (List ℕ) → ℤ → TokenKind → Option Literal
literal_kind texts v kind.IntLiteral = Some (lit.Int v)
literal_kind texts v kind.LongLiteral = Some (lit.Long v)
literal_kind texts v kind.CharLiteral = Some (lit.Char v)
literal_kind texts (pos place) kind.TextLiteral = slice_get texts place >>= λ units. Some (lit.Text units)
literal_kind texts v (kind.Keyword word.True) = Some (lit.Bool true)
literal_kind texts v (kind.Keyword word.False) = Some (lit.Bool false)
literal_kind texts v (kind.Keyword word.Null) = Some lit.Null
literal_kind texts v _ = None

abbrev pub literal_at : List (List ℕ) → List Token → Read Expression
literal_at texts [] = None
literal_at texts (t ∷ ts) = literal_kind texts t.value t.kind >>= λ l. Some (tree.literal l t.span, ts)

abbrev pub prefix_kind : TokenKind → Option PrefixOp
prefix_kind (kind.Symbol symbol.Plus) = Some prefix_op.Plus
prefix_kind (kind.Symbol symbol.Minus) = Some prefix_op.Minus
prefix_kind (kind.Symbol symbol.Increment) = Some prefix_op.Increment
prefix_kind (kind.Symbol symbol.Decrement) = Some prefix_op.Decrement
prefix_kind (kind.Symbol symbol.Not) = Some prefix_op.Not
prefix_kind (kind.Symbol symbol.Tilde) = Some prefix_op.Tilde
prefix_kind _ = None

abbrev pub prefix_operator : List Token → Read PrefixOp
prefix_operator [] = None
prefix_operator (t ∷ ts) = prefix_kind t.kind >>= λ o. Some (o, ts)

abbrev pub postfix_operator : List Token → Read PostfixOp
postfix_operator ts = with (behind symbol.Increment ts) (λ rest. Some (postfix_op.Increment, rest)) (behind symbol.Decrement ts >>= λ rest. Some (postfix_op.Decrement, rest))

abbrev pub binary_kind : TokenKind → Option BinaryOp
binary_kind (kind.Symbol symbol.OrOr) = Some op.Or
binary_kind (kind.Symbol symbol.AndAnd) = Some op.And
binary_kind (kind.Symbol symbol.Or) = Some op.BitOr
binary_kind (kind.Symbol symbol.Caret) = Some op.BitXor
binary_kind (kind.Symbol symbol.And) = Some op.BitAnd
binary_kind (kind.Symbol symbol.Equal) = Some op.Equal
binary_kind (kind.Symbol symbol.NotEqual) = Some op.NotEqual
binary_kind (kind.Symbol symbol.Less) = Some op.Less
binary_kind (kind.Symbol symbol.Greater) = Some op.Greater
binary_kind (kind.Symbol symbol.LessEqual) = Some op.LessEqual
binary_kind (kind.Symbol symbol.GreaterEqual) = Some op.GreaterEqual
binary_kind (kind.Symbol symbol.ShiftLeft) = Some op.ShiftLeft
binary_kind (kind.Symbol symbol.ShiftRight) = Some op.ShiftRight
binary_kind (kind.Symbol symbol.UnsignedShiftRight) = Some op.UnsignedShiftRight
binary_kind (kind.Symbol symbol.Plus) = Some op.Add
binary_kind (kind.Symbol symbol.Minus) = Some op.Subtract
binary_kind (kind.Symbol symbol.Star) = Some op.Multiply
binary_kind (kind.Symbol symbol.Slash) = Some op.Divide
binary_kind (kind.Symbol symbol.Percent) = Some op.Remainder
binary_kind _ = None

abbrev pub binary_operator : List Token → Read BinaryOp
binary_operator [] = None
binary_operator (t ∷ ts) = binary_kind t.kind >>= λ o. Some (o, ts)

abbrev pub assignment_kind : TokenKind → Option (Option BinaryOp)
assignment_kind (kind.Symbol symbol.Assign) = Some None
assignment_kind (kind.Symbol symbol.StarAssign) = Some (Some op.Multiply)
assignment_kind (kind.Symbol symbol.SlashAssign) = Some (Some op.Divide)
assignment_kind (kind.Symbol symbol.PercentAssign) = Some (Some op.Remainder)
assignment_kind (kind.Symbol symbol.PlusAssign) = Some (Some op.Add)
assignment_kind (kind.Symbol symbol.MinusAssign) = Some (Some op.Subtract)
assignment_kind (kind.Symbol symbol.ShiftLeftAssign) = Some (Some op.ShiftLeft)
assignment_kind (kind.Symbol symbol.ShiftRightAssign) = Some (Some op.ShiftRight)
assignment_kind (kind.Symbol symbol.UnsignedShiftRightAssign) = Some (Some op.UnsignedShiftRight)
assignment_kind (kind.Symbol symbol.AndAssign) = Some (Some op.BitAnd)
assignment_kind (kind.Symbol symbol.CaretAssign) = Some (Some op.BitXor)
assignment_kind (kind.Symbol symbol.OrAssign) = Some (Some op.BitOr)
assignment_kind _ = None

abbrev pub assignment_operator : List Token → Read (Option BinaryOp)
assignment_operator [] = None
assignment_operator (t ∷ ts) = assignment_kind t.kind >>= λ o. Some (o, ts)

-- whether `Name "." "this"` stands here
unfoldable pub is_outer_this_at : List Token → Bool
is_outer_this_at ts = with (past_name_at ts) (λ rest. with (behind symbol.Dot rest) (is_word word.This) false) false

unfoldable pub outer_this_at : List Token → Read Expression
outer_this_at ts = name_at ts >>= λ n. behind symbol.Dot n.1 >>= λ t. behind_word word.This t >>= λ rest.
    Some (tree.outer_this n.0 (first_span t) (join n.0.span (first_span t)), rest)

-- whether brackets follow the type of a creation, which has no type arguments then
unfoldable pub makes_array_at : List Token → Bool
makes_array_at ts = is_some (primitive_at ts) || with (past_name_at ts) (is_symbol symbol.OpenBracket) false

-- The class body of an anonymous class is a parameter of its own, since class bodies are read with members.
module _ (texts : List (List ℕ)) (h : ℕ) (p : Below) (body : List Token → Closed Members) where
  -- The numbers below bound how many items come.
  unfoldable pub more_arguments_at : ℕ → List Expression → List Token → Closed Expressions
  more_arguments_at zero front ts = None
  more_arguments_at (suc n) front ts = p.expression 1 ts >>= λ x.
      with (behind symbol.Comma x.1) (λ mid. more_arguments_at n (front ++ x.0 ∷ []) mid)
      (behind symbol.CloseParen x.1 >>= λ rest. Some (expressions (front ++ x.0 ∷ []), first_span x.1, rest))

  unfoldable pub arguments_at : List Token → Closed Expressions
  arguments_at ts = behind symbol.OpenParen ts >>= λ inside.
      with (behind symbol.CloseParen inside) (λ rest. Some (tree.no_expressions, first_span inside, rest))
      (more_arguments_at (length inside) [] inside)

  -- "[" Expr "]"
  unfoldable pub length_at : List Token → Inside
  length_at ts = behind symbol.OpenBracket ts >>= λ inside. p.expression 1 inside >>= λ x.
      behind symbol.CloseBracket x.1 >>= λ rest. Some (x.0, first_span x.1, rest)

  unfoldable pub more_lengths_at : ℕ → List Expression → Span → List Token → Expressions × Span × List Token
  more_lengths_at zero front s ts = (expressions front, s, ts)
  more_lengths_at (suc n) front s ts = with (length_at ts) (λ x. more_lengths_at n (front ++ x.0 ∷ []) x.1 x.2) (expressions front, s, ts)

  unfoldable pub lengths_at : List Token → Closed Expressions
  lengths_at ts = length_at ts >>= λ x. Some (more_lengths_at (length ts) (x.0 ∷ []) x.1 x.2)

  unfoldable pub filled_at : Span → TypeName → ℕ → List Token → Read Expression
  filled_at w t n ts = if is_symbol symbol.OpenBrace ts then (p.initializer ts >>= λ x. Some (tree.new_array_of t n x.0 (join w (span_of x.0)), x.1)) else None

  unfoldable pub array_at : Span → List Token → Read Expression
  array_at w ts = element_at ts >>= λ t. let d = dims_at w t.1 in
      if nat_lt 0 d.0 then filled_at w t.0 d.0 d.2
      else lengths_at t.1 >>= λ x. let k = dims_at (join w x.1) x.2 in Some (tree.new_array t.0 x.0 k.0 k.1, k.2)

  unfoldable pub object_at : Span → List Token → Read Expression
  object_at w ts = reference_at h ts >>= λ c. arguments_at c.1 >>= λ x.
      with (body x.2) (λ b. Some (tree.new_anonymous w c.0 x.0 b.0 (join w b.1), b.2))
      (Some (tree.new_object w c.0 x.0 (join w x.1), x.2))

  unfoldable pub creation_at : List Token → Read Expression
  creation_at ts = behind_word word.New ts >>= λ made.
      if nat_lt 0 h then (if makes_array_at made then array_at (first_span ts) made else object_at (first_span ts) made) else None

  unfoldable pub named_at : List Token → Read Expression
  named_at ts = if is_outer_this_at ts then outer_this_at ts
      else identifier_at ts >>= λ x.
      with (arguments_at x.1) (λ y. Some (tree.call x.0 y.0 (join x.0.span y.1), y.2)) (Some (tree.name x.0, x.1))

  unfoldable pub super_member_at : List Token → Read Expression
  super_member_at ts = behind_word word.Super ts >>= behind symbol.Dot >>= identifier_at >>= λ x.
      with (arguments_at x.1) (λ y. Some (tree.super_call (first_span ts) x.0 y.0 (join (first_span ts) y.1), y.2))
      (Some (tree.super_select (first_span ts) x.0 (join (first_span ts) x.0.span), x.1))

  unfoldable pub parens_at : List Token → Read Expression
  parens_at ts = behind symbol.OpenParen ts >>= λ inside. p.expression 1 inside >>= λ x.
      behind symbol.CloseParen x.1 >>= λ rest. Some (tree.parens x.0 (join (first_span ts) (first_span x.1)), rest)

  unfoldable pub primary_at : List Token → Read Expression
  primary_at ts =
      if is_identifier ts then named_at ts
      else if is_symbol symbol.OpenParen ts then parens_at ts
      else with (behind_word word.This ts) (λ rest. Some (tree.this (first_span ts), rest))
      (if is_word word.Super ts then super_member_at ts
      else if is_word word.New ts then creation_at ts
      else literal_at texts ts)

  -- "." id
  abbrev pub selected_at : List Token → Read Identifier
  selected_at ts = behind symbol.Dot ts >>= identifier_at

  unfoldable pub index_step : (Expression → List Token → Expression × List Token) → Expression → List Token → Expression × List Token
  index_step continue e ts = if is_bare_creation e then (e, ts)
      else with (length_at ts) (λ x. continue (tree.index e x.0 (join (span_of e) x.1)) x.2) (e, ts)

  -- one more selection, or none
  unfoldable pub selection_step : (Expression → List Token → Expression × List Token) → Expression → List Token → Expression × List Token
  selection_step continue e ts =
      if nat_lt h (height e) then (e, ts)
      else with (selected_at ts)
      (λ x. with (arguments_at x.1) (λ y. continue (tree.call_on e x.0 y.0 (join (span_of e) y.1)) y.2)
      (continue (tree.select e x.0 (join (span_of e) x.0.span)) x.1))
      (index_step continue e ts)

  unfoldable pub selections_at : ℕ → Expression → List Token → Expression × List Token
  selections_at zero e ts = (e, ts)
  selections_at (suc n) e ts = selection_step (selections_at n) e ts

  unfoldable pub increments_at : ℕ → Expression → List Token → Expression × List Token
  increments_at zero e ts = (e, ts)
  increments_at (suc n) e ts =
      if nat_lt h (height e) then (e, ts)
      else with (postfix_operator ts) (λ x. increments_at n (tree.postfix x.0 (first_span ts) e (join (span_of e) (first_span ts))) x.1) (e, ts)

  unfoldable pub postfix_at : List Token → Read Expression
  postfix_at ts = primary_at ts >>= λ x. let y = selections_at (suc h) x.0 x.1 in Some (increments_at (suc h) y.0 y.1)

  -- a primitive type, or else an operand begins behind the brackets
  abbrev pub may_be_cast : TypeName → List Token → Bool
  may_be_cast (primitive q n s) ts = true
  may_be_cast (class_type q us n s) ts = begins_operand ts

  unfoldable pub cast_at : List Token → Read Expression
  cast_at ts = behind symbol.OpenParen ts >>= plain_type_at >>= λ t. behind symbol.CloseParen t.1 >>= λ operand.
      if may_be_cast t.0 operand then (p.expression 13 operand >>= λ x. Some (tree.cast t.0 x.0 (join (first_span ts) (span_of x.0)), x.1)) else None

  unfoldable pub prefix_at : PrefixOp → Span → List Token → Read Expression
  prefix_at o a ts = p.expression 13 ts >>= λ x. Some (tree.prefix o a x.0 (join a (span_of x.0)), x.1)

  unfoldable pub unary_at : List Token → Read Expression
  unary_at ts = with (prefix_operator ts) (λ o. prefix_at o.0 (first_span ts) o.1) (if is_cast_at ts then cast_at ts else postfix_at ts)

  -- one more operator of a level from least to most, or none
  unfoldable pub binary_step : (ℕ → Expression → List Token → Expression × List Token) → ℕ → ℕ → Expression → List Token → Expression × List Token
  binary_step continue least most e ts = with (binary_operator ts)
      (λ o. if nat_lt (operator_level o.0) least || nat_lt most (operator_level o.0) then (e, ts)
      else with (p.expression (operator_level o.0 + 1) o.1)
      (λ x. continue (operator_level o.0) (tree.binary o.0 (first_span ts) e x.0 (join (span_of e) (span_of x.0))) x.1) (e, ts))
      (e, ts)

  unfoldable pub operation_step : (ℕ → Expression → List Token → Expression × List Token) → ℕ → ℕ → Expression → List Token → Expression × List Token
  operation_step continue least most e ts =
      if nat_lt h (height e) then (e, ts)
      else with (behind_word word.InstanceOf ts)
      (λ mid. if nat_lt 9 least || nat_lt most 9 then (e, ts)
      else with (plain_type_at mid) (λ t. continue 9 (tree.instance_of (first_span ts) e t.0 (join (span_of e) (type_span t.0))) t.1) (e, ts))
      (binary_step continue least most e ts)

  unfoldable pub operations_at : ℕ → ℕ → ℕ → Expression → List Token → Expression × List Token
  operations_at zero least most e ts = (e, ts)
  operations_at (suc n) least most e ts = operation_step (operations_at n least) least most e ts

  -- "?" Expr ":" Expr, the second one no assignment
  unfoldable pub choices_at : List Token → Option (Expression × Expression × List Token)
  choices_at ts = behind symbol.Question ts >>= p.expression 1 >>= λ x. behind symbol.Colon x.1 >>= p.expression 2 >>= λ y. Some (x.0, y.0, y.1)

  unfoldable pub conditional_at : ℕ → Expression → List Token → Expression × List Token
  conditional_at least e ts =
      if nat_lt 2 least || nat_lt h (height e) then (e, ts)
      else with (choices_at ts) (λ y. (tree.conditional (first_span ts) e y.0 y.1 (join (span_of e) (span_of y.1)), y.2)) (e, ts)

  unfoldable pub assignment_at : ℕ → Expression → List Token → Expression × List Token
  assignment_at least e ts =
      if nat_lt 1 least || nat_lt h (height e) || nat_lt (level e) 15 then (e, ts)
      else with (assignment_operator ts)
      (λ o. with (p.expression 1 o.1) (λ x. (tree.assign o.0 (first_span ts) e x.0 (join (span_of e) (span_of x.0)), x.1)) (e, ts))
      (e, ts)

  unfoldable pub expression_layer : ℕ → List Token → Read Expression
  expression_layer least ts = unary_at ts >>= λ x.
      let y = operations_at (suc h) least 12 x.0 x.1 in
      let z = conditional_at least y.0 y.1 in
      Some (assignment_at least z.0 z.1)

  -- [Init {"," Init}] [","] "}"
  unfoldable pub behind_lone_comma : List Token → List Token
  behind_lone_comma ts = with (behind symbol.Comma ts) (λ rest. if is_symbol symbol.CloseBrace rest then rest else ts) ts

  unfoldable pub values_at : ℕ → List Expression → List Token → Closed Expressions
  values_at zero front ts = None
  values_at (suc n) front ts = with (behind symbol.CloseBrace ts) (λ rest. Some (expressions front, first_span ts, rest))
      (p.initializer ts >>= λ x. with (behind symbol.Comma x.1) (λ mid. values_at n (front ++ x.0 ∷ []) mid)
      (if is_symbol symbol.CloseBrace x.1 then values_at n (front ++ x.0 ∷ []) x.1 else None))

  unfoldable pub array_initializer_layer : List Token → Read Expression
  array_initializer_layer ts = behind symbol.OpenBrace ts >>= λ inside.
      values_at (length inside) [] (behind_lone_comma inside) >>= λ x. Some (tree.array_init x.0 (join (first_span ts) x.1), x.2)
