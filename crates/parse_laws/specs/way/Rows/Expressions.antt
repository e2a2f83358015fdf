-- Worked rows of expressions: the trees that spell these texts are the ones that are read.
use Rattle.std.specs.Prelude.{◌≡◌, refl, [], ◌∷◌, Some, None, true, false, pos, codes}
use Rattle.je_ast.specs.Types.{class_type, more_types, no_types, primitive}
use Rattle.je_grammar.specs.Rows.Scale.{from, id, named, names, num, sy, texts, wd}
use Rattle.je_ast.specs.Trees as tree
use Rattle.je_ast.specs.declared.expr.Literal.TheVariants as lit
use Rattle.je_ast.specs.declared.operator.BinaryOp.TheVariants as op
use Rattle.je_ast.specs.declared.operator.PostfixOp.TheVariants as postfix_op
use Rattle.je_ast.specs.declared.operator.PrefixOp.TheVariants as prefix_op
use Rattle.je_ast.specs.declared.ty_name.Primitive.TheVariants as prim
use Rattle.je_token.specs.declared.keyword.Keyword.TheVariants as word
use Rattle.je_token.specs.declared.symbol.Symbol.TheVariants as symbol
use Rattle.je_token.specs.declared.token.TokenKind.TheVariants as kind
use Rattle.parse_laws.specs.way.Knot.{at}
use Rattle.parse_laws.specs.way.Opened.{opened}

-- f(1, 2L, 'x', "", true, false, null)
literals_row : (at names texts 12).expression 1 (id 5 0 ∷ sy symbol.OpenParen 1 ∷ num kind.IntLiteral 1 2 3 ∷ sy
    symbol.Comma 3 ∷ num kind.LongLiteral 2 5 7 ∷ sy symbol.Comma 7 ∷ num kind.CharLiteral 120 9 12 ∷ sy
    symbol.Comma 12 ∷ num kind.TextLiteral 1 14 16 ∷ sy symbol.Comma 16 ∷ wd word.True 18 ∷ sy symbol.Comma 22 ∷ wd
    word.False 24 ∷ sy symbol.Comma 29 ∷ wd word.Null 31 ∷ sy symbol.CloseParen 35 ∷ []) ≡ Some (
      (tree.call (named 5 0) (tree.more_expressions (tree.literal (lit.Int (pos 1)) (from 2 3))
          (tree.more_expressions (tree.literal (lit.Long (pos 2)) (from 5 7)) (tree.more_expressions (tree.literal
          (lit.Char (pos 120)) (from 9 12)) (tree.more_expressions (tree.literal (lit.Text []) (from 14 16))
          (tree.more_expressions (tree.literal (lit.Bool true) (from 18 22)) (tree.more_expressions (tree.literal
          (lit.Bool false) (from 24 29)) (tree.more_expressions (tree.literal lit.Null (from 31 35))
          tree.no_expressions))))))) (from 0 36)),
      [],
    )
unfolding opened
literals_row = refl

-- this.x
this_row : (at names texts 12).expression 1 (wd word.This 0 ∷ sy symbol.Dot 4
    ∷ id 23 5 ∷ []) ≡ Some ((tree.select (tree.this (from 0 4)) (named 23 5) (from 0 6)), [])
unfolding opened
this_row = refl

-- A.B.this
outer_this_row : (at names texts 12).expression 1 (id 26 0 ∷ sy symbol.Dot 1 ∷ id 27 2 ∷ sy symbol.Dot 3 ∷ wd word.This 4 ∷ []) ≡ Some (
  (tree.outer_this (record { parts = (named 26 0) ∷ (named 27 2) ∷ []; span = from 0 3 })
      (from 4 8) (from 0 8)),
  [],
)
unfolding opened
outer_this_row = refl

-- (a)
brackets_row : (at names texts 12).expression 1 (sy symbol.OpenParen 0 ∷ id 0 1 ∷ sy
    symbol.CloseParen 2 ∷ []) ≡ Some ((tree.parens (tree.name (named 0 1)) (from 0 3)), [])
unfolding opened
brackets_row = refl

-- super.x
super_row : (at names texts 12).expression 1 (wd word.Super 0 ∷ sy symbol.Dot 5 ∷
    id 23 6 ∷ []) ≡ Some ((tree.super_select (from 0 5) (named 23 6) (from 0 7)), [])
unfolding opened
super_row = refl

-- super.f(a)
super_call_row : (at names texts 12).expression 1 (wd word.Super 0 ∷ sy symbol.Dot 5 ∷ id 5 6 ∷ sy symbol.OpenParen 7 ∷ id 0 8 ∷
    sy symbol.CloseParen 9 ∷ []) ≡ Some (
      (tree.super_call (from 0 5) (named 5 6) (tree.more_expressions (tree.name (named 0 8))
          tree.no_expressions) (from 0 10)),
      [],
    )
unfolding opened
super_call_row = refl

-- f()
call_row : (at names texts 12).expression 1 (id 5 0 ∷ sy symbol.OpenParen 1 ∷ sy
    symbol.CloseParen 2 ∷ []) ≡ Some ((tree.call (named 5 0) tree.no_expressions (from 0 3)), [])
unfolding opened
call_row = refl

-- a.b.f(c)
call_on_row : (at names texts 12).expression 1 (id 0 0 ∷ sy symbol.Dot 1 ∷ id 1
    2 ∷ sy symbol.Dot 3 ∷ id 5 4 ∷ sy symbol.OpenParen 5 ∷ id 2 6 ∷ sy symbol.CloseParen 7 ∷ []) ≡ Some (
      (tree.call_on (tree.select (tree.name (named 0 0)) (named 1 2) (from 0 3)) (named 5 4)
          (tree.more_expressions (tree.name (named 2 6)) tree.no_expressions) (from 0 8)),
      [],
    )
unfolding opened
call_on_row = refl

-- a[i][j]
index_row : (at names texts 12).expression 1 (id 0 0 ∷ sy symbol.OpenBracket 1 ∷ id 8 2 ∷ sy symbol.CloseBracket 3 ∷ sy
    symbol.OpenBracket 4 ∷ id 9 5 ∷ sy symbol.CloseBracket 6 ∷ []) ≡ Some (
      (tree.index (tree.index (tree.name (named 0 0)) (tree.name (named 8 2)) (from 0 4))
          (tree.name (named 9 5)) (from 0 7)),
      [],
    )
unfolding opened
index_row = refl

-- (a) + b
bracketed_sum_row : (at names texts 12).expression 1 (sy symbol.OpenParen 0 ∷ id 0 1 ∷ sy symbol.CloseParen 2 ∷ sy symbol.Plus 4
    ∷ id 1 6 ∷ []) ≡ Some (
      (tree.binary op.Add (from 4 5) (tree.parens (tree.name (named 0 1)) (from 0 3))
          (tree.name (named 1 6)) (from 0 7)),
      [],
    )
unfolding opened
bracketed_sum_row = refl

-- (a) b
cast_row : (at names texts 12).expression 1 (sy symbol.OpenParen 0 ∷ id 0 1 ∷ sy symbol.CloseParen 2 ∷ id 1 4 ∷
    []) ≡ Some (
      (tree.cast (class_type (record { parts = (named 0 1) ∷ []; span = from 1 2 }) no_types 0 (from
          1 2)) (tree.name (named 1 4)) (from 0 5)),
      [],
    )
unfolding opened
cast_row = refl

-- (A) (b)
cast_of_brackets_row : (at names texts 12).expression 1 (sy symbol.OpenParen 0 ∷
    id 26 1 ∷ sy symbol.CloseParen 2 ∷ sy symbol.OpenParen 4 ∷ id 1 5 ∷ sy symbol.CloseParen 6 ∷ []) ≡ Some (
      (tree.cast (class_type (record { parts = (named 26 1) ∷ []; span = from 1 2 })
          no_types 0 (from 1 2)) (tree.parens (tree.name (named 1 5)) (from 4 7)) (from 0 7)),
      [],
    )
unfolding opened
cast_of_brackets_row = refl

-- (int) -x
primitive_cast_row : (at names texts 12).expression 1 (sy symbol.OpenParen 0 ∷ wd word.Int 1 ∷ sy symbol.CloseParen 4
    ∷ sy symbol.Minus 6 ∷ id 23 7 ∷ []) ≡ Some (
      (tree.cast (primitive prim.Int 0 (from 1 4)) (tree.prefix prefix_op.Minus (from 6 7)
          (tree.name (named 23 7)) (from 6 8)) (from 0 8)),
      [],
    )
unfolding opened
primitive_cast_row = refl

-- (A.B[]) x
array_cast_row : (at names texts 12).expression 1 (sy symbol.OpenParen 0 ∷ id 26 1 ∷ sy
    symbol.Dot 2 ∷ id 27 3 ∷ sy symbol.OpenBracket 4 ∷ sy symbol.CloseBracket 5 ∷ sy symbol.CloseParen 6 ∷ id 23 8 ∷
    []) ≡ Some (
      (tree.cast (class_type (record {
        parts = (named 26 1) ∷ (named 27 3) ∷ [];
        span = from 1
            4;
      }) no_types 1 (from 1 6)) (tree.name (named 23 8)) (from 0 9)),
      [],
    )
unfolding opened
array_cast_row = refl

-- (A) -x
difference_row : (at names texts 12).expression 1 (sy symbol.OpenParen 0 ∷ id 26 1 ∷ sy symbol.CloseParen 2 ∷ sy symbol.Minus
    4 ∷ id 23 5 ∷ []) ≡ Some (
      (tree.binary op.Subtract (from 4 5) (tree.parens (tree.name (named 26 1)) (from 0 3))
          (tree.name (named 23 5)) (from 0 6)),
      [],
    )
unfolding opened
difference_row = refl

-- (A) !x
not_cast_row : (at names texts 12).expression 1 (sy
    symbol.OpenParen 0 ∷ id 26 1 ∷ sy symbol.CloseParen 2 ∷ sy symbol.Not 4 ∷ id 23 5 ∷ []) ≡ Some (
      (tree.cast (class_type (record { parts = (named 26 1) ∷ []; span = from 1 2 }) no_types 0
          (from 1 2)) (tree.prefix prefix_op.Not (from 4 5) (tree.name (named 23 5)) (from 4 6)) (from 0 6)),
      [],
    )
unfolding opened
not_cast_row = refl

-- (int[]) ~x
tilde_row : (at names texts 12).expression 1 (sy symbol.OpenParen 0 ∷ wd word.Int 1 ∷ sy
    symbol.OpenBracket 4 ∷ sy symbol.CloseBracket 5 ∷ sy symbol.CloseParen 6 ∷ sy symbol.Tilde 8 ∷ id 23 9 ∷ []) ≡ Some (
      (tree.cast (primitive prim.Int 1 (from 1 6)) (tree.prefix prefix_op.Tilde (from 8 9)
          (tree.name (named 23 9)) (from 8 10)) (from 0 10)),
      [],
    )
unfolding opened
tilde_row = refl

-- -x++
prefix_row : (at names texts 12).expression 1 (sy symbol.Minus 0 ∷ id 23 1 ∷ sy symbol.Increment 2 ∷ []) ≡ Some (
  (tree.prefix prefix_op.Minus (from 0 1) (tree.postfix postfix_op.Increment (from 2 4)
      (tree.name (named 23 1)) (from 1 4)) (from 0 4)),
  [],
)
unfolding opened
prefix_row = refl

-- ++x
increment_row : (at names texts 12).expression 1 (sy
    symbol.Increment 0 ∷ id 23 2 ∷ []) ≡ Some ((tree.prefix prefix_op.Increment (from 0 2) (tree.name (named 23 2)) (from 0 3)), [])
unfolding opened
increment_row = refl

-- x++ --
nested_postfix_row : (at names texts 12).expression 1 (id 23 0 ∷ sy symbol.Increment 1 ∷ sy
    symbol.Decrement 4 ∷ []) ≡ Some (
      (tree.postfix postfix_op.Decrement (from 4 6) (tree.postfix postfix_op.Increment
          (from 1 3) (tree.name (named 23 0)) (from 0 3)) (from 0 6)),
      [],
    )
unfolding opened
nested_postfix_row = refl

-- +--x
plus_row : (at names texts 12).expression 1 (sy symbol.Plus 0 ∷ sy symbol.Decrement 1 ∷ id 23 3 ∷ []) ≡ Some (
  (tree.prefix prefix_op.Plus (from 0 1) (tree.prefix prefix_op.Decrement (from 1 3) (tree.name
      (named 23 3)) (from 1 4)) (from 0 4)),
  [],
)
unfolding opened
plus_row = refl

-- a < b >> c
shift_row : (at names texts 12).expression 1 (id 0 0 ∷ sy symbol.Less 2 ∷ id 1 4 ∷
    sy symbol.ShiftRight 6 ∷ id 2 9 ∷ []) ≡ Some (
      (tree.binary op.Less (from 2 3) (tree.name (named 0 0)) (tree.binary op.ShiftRight (from 6 8)
          (tree.name (named 1 4)) (tree.name (named 2 9)) (from 4 10)) (from 0 10)),
      [],
    )
unfolding opened
shift_row = refl

-- a >>> b << c
unsigned_shift_row : (at names texts 12).expression 1 (id 0 0 ∷ sy
    symbol.UnsignedShiftRight 2 ∷ id 1 6 ∷ sy symbol.ShiftLeft 8 ∷ id 2 11 ∷ []) ≡ Some (
      (tree.binary op.ShiftLeft (from 8 10) (tree.binary op.UnsignedShiftRight (from 2 5)
          (tree.name (named 0 0)) (tree.name (named 1 6)) (from 0 7)) (tree.name (named 2 11)) (from 0 12)),
      [],
    )
unfolding opened
unsigned_shift_row = refl

-- a == b != c
equality_row : (at names texts 12).expression 1 (id 0 0 ∷ sy symbol.Equal 2 ∷ id 1
    5 ∷ sy symbol.NotEqual 7 ∷ id 2 10 ∷ []) ≡ Some (
      (tree.binary op.NotEqual (from 7 9) (tree.binary op.Equal (from 2 4) (tree.name (named 0
          0)) (tree.name (named 1 5)) (from 0 6)) (tree.name (named 2 10)) (from 0 11)),
      [],
    )
unfolding opened
equality_row = refl

-- a <= b
relation_row : (at names texts 12).expression 1 (id 0 0 ∷ sy symbol.LessEqual 2 ∷ id 1 5 ∷ []) ≡ Some (
  (tree.binary op.LessEqual (from 2 4) (tree.name (named 0 0)) (tree.name (named 1 5)) (from
      0 6)),
  [],
)
unfolding opened
relation_row = refl

-- a > b >= c
greater_row : (at names texts 12).expression 1 (id 0 0 ∷ sy
    symbol.Greater 2 ∷ id 1 4 ∷ sy symbol.GreaterEqual 6 ∷ id 2 9 ∷ []) ≡ Some (
      (tree.binary op.GreaterEqual (from 6 8) (tree.binary op.Greater (from 2 3) (tree.name
          (named 0 0)) (tree.name (named 1 4)) (from 0 5)) (tree.name (named 2 9)) (from 0 10)),
      [],
    )
unfolding opened
greater_row = refl

-- a - b - c
left_row : (at names texts 12).expression 1 (id 0 0 ∷ sy symbol.Minus 2 ∷ id 1 4
    ∷ sy symbol.Minus 6 ∷ id 2 8 ∷ []) ≡ Some (
      (tree.binary op.Subtract (from 6 7) (tree.binary op.Subtract (from 2 3) (tree.name (named 0
          0)) (tree.name (named 1 4)) (from 0 5)) (tree.name (named 2 8)) (from 0 9)),
      [],
    )
unfolding opened
left_row = refl

-- a + b * c / d % e
product_row : (at names texts 12).expression 1 (id 0 0 ∷ sy symbol.Plus 2 ∷ id 1 4 ∷ sy symbol.Star 6 ∷ id 2 8 ∷ sy symbol.Slash 10 ∷ id 3 12 ∷ sy
    symbol.Percent 14 ∷ id 4 16 ∷ []) ≡ Some (
      (tree.binary op.Add (from 2 3) (tree.name (named 0 0)) (tree.binary op.Remainder (from 14
          15) (tree.binary op.Divide (from 10 11) (tree.binary op.Multiply (from 6 7) (tree.name (named 1 4)) (tree.name
          (named 2 8)) (from 4 9)) (tree.name (named 3 12)) (from 4 13)) (tree.name (named 4 16)) (from 4 17)) (from 0
          17)),
      [],
    )
unfolding opened
product_row = refl

-- a | b ^ c & d
bits_row : (at names texts 12).expression 1 (id 0 0 ∷ sy symbol.Or 2 ∷ id 1 4 ∷ sy symbol.Caret 6 ∷ id 2 8 ∷ sy
    symbol.And 10 ∷ id 3 12 ∷ []) ≡ Some (
      (tree.binary op.BitOr (from 2 3) (tree.name (named 0 0)) (tree.binary op.BitXor (from 6 7)
          (tree.name (named 1 4)) (tree.binary op.BitAnd (from 10 11) (tree.name (named 2 8)) (tree.name (named 3 12))
          (from 8 13)) (from 4 13)) (from 0 13)),
      [],
    )
unfolding opened
bits_row = refl

-- a || b && c
logic_row : (at names texts 12).expression 1 (id 0 0 ∷ sy symbol.OrOr 2 ∷ id 1 5 ∷
    sy symbol.AndAnd 7 ∷ id 2 10 ∷ []) ≡ Some (
      (tree.binary op.Or (from 2 4) (tree.name (named 0 0)) (tree.binary op.And (from 7 9)
          (tree.name (named 1 5)) (tree.name (named 2 10)) (from 5 11)) (from 0 11)),
      [],
    )
unfolding opened
logic_row = refl

-- a instanceof B[] == b
instance_row : (at names texts 12).expression 1 (id 0 0 ∷ wd word.InstanceOf 2 ∷ id 27 13 ∷ sy symbol.OpenBracket 14 ∷ sy
    symbol.CloseBracket 15 ∷ sy symbol.Equal 17 ∷ id 1 20 ∷ []) ≡ Some (
      (tree.binary op.Equal (from 17 19) (tree.instance_of (from 2 12) (tree.name (named 0 0))
          (class_type (record { parts = (named 27 13) ∷ []; span = from 13 14 }) no_types 1 (from 13 16)) (from 0 16))
          (tree.name (named 1 20)) (from 0 21)),
      [],
    )
unfolding opened
instance_row = refl

-- a < b instanceof C
instance_chain_row : (at names texts 12).expression 1 (id 0 0 ∷ sy symbol.Less 2 ∷ id 1 4 ∷ wd word.InstanceOf 6 ∷ id 28 17 ∷
    []) ≡ Some (
      (tree.instance_of (from 6 16) (tree.binary op.Less (from 2 3) (tree.name (named 0
          0)) (tree.name (named 1 4)) (from 0 5)) (class_type (record { parts = (named 28 17) ∷ []; span = from 17 18 })
          no_types 0 (from 17 18)) (from 0 18)),
      [],
    )
unfolding opened
instance_chain_row = refl

-- a ? b : c ? d : e
conditional_row : (at names texts 12).expression 1 (id 0 0 ∷ sy symbol.Question 2 ∷ id 1 4 ∷ sy symbol.Colon 6 ∷ id 2 8 ∷ sy symbol.Question 10 ∷
    id 3 12 ∷ sy symbol.Colon 14 ∷ id 4 16 ∷ []) ≡ Some (
      (tree.conditional (from 2 3) (tree.name (named 0 0)) (tree.name (named 1 4))
          (tree.conditional (from 10 11) (tree.name (named 2 8)) (tree.name (named 3 12)) (tree.name (named 4 16)) (from 8
          17)) (from 0 17)),
      [],
    )
unfolding opened
conditional_row = refl

-- a ? b = c : d
conditional_assignment_row : (at names texts 12).expression 1 (id 0 0 ∷
    sy symbol.Question 2 ∷ id 1 4 ∷ sy symbol.Assign 6 ∷ id 2 8 ∷ sy symbol.Colon 10 ∷ id 3 12 ∷ []) ≡ Some (
      (tree.conditional (from 2 3) (tree.name (named 0 0)) (tree.assign None (from
          6 7) (tree.name (named 1 4)) (tree.name (named 2 8)) (from 4 9)) (tree.name (named 3 12)) (from 0 13)),
      [],
    )
unfolding opened
conditional_assignment_row = refl

-- a = b = c
assign_row : (at names texts 12).expression 1 (id 0 0 ∷ sy symbol.Assign 2 ∷ id 1 4 ∷ sy
    symbol.Assign 6 ∷ id 2 8 ∷ []) ≡ Some (
      (tree.assign None (from 2 3) (tree.name (named 0 0)) (tree.assign None (from 6 7) (tree.name
          (named 1 4)) (tree.name (named 2 8)) (from 4 9)) (from 0 9)),
      [],
    )
unfolding opened
assign_row = refl

-- a[0] += b
compound_row : (at names texts 12).expression 1 (id 0 0 ∷ sy symbol.OpenBracket 1
    ∷ num kind.IntLiteral 0 2 3 ∷ sy symbol.CloseBracket 3 ∷ sy symbol.PlusAssign 5 ∷ id 1 8 ∷ []) ≡ Some (
      (tree.assign (Some op.Add) (from 5 7) (tree.index (tree.name (named 0 0)) (tree.literal
          (lit.Int (pos 0)) (from 2 3)) (from 0 4)) (tree.name (named 1 8)) (from 0 9)),
      [],
    )
unfolding opened
compound_row = refl

-- a.x >>>= (b = c)
shift_assign_row : (at names texts 12).expression 1 (id 0 0 ∷ sy symbol.Dot 1 ∷ id 23 2 ∷ sy
    symbol.UnsignedShiftRightAssign 4 ∷ sy symbol.OpenParen 9 ∷ id 1 10 ∷ sy symbol.Assign 12 ∷ id 2 14 ∷ sy
    symbol.CloseParen 15 ∷ []) ≡ Some (
      (tree.assign (Some op.UnsignedShiftRight) (from 4 8) (tree.select (tree.name (named 0
          0)) (named 23 2) (from 0 3)) (tree.parens (tree.assign None (from 12 13) (tree.name (named 1 10)) (tree.name
          (named 2 14)) (from 10 15)) (from 9 16)) (from 0 16)),
      [],
    )
unfolding opened
shift_assign_row = refl

-- new A.B(x)
new_row : (at names texts 12).expression 1 (wd word.New 0 ∷ id 26 4 ∷ sy symbol.Dot 5 ∷ id 27 6 ∷ sy symbol.OpenParen 7 ∷ id 23 8 ∷ sy
    symbol.CloseParen 9 ∷ []) ≡ Some (
      (tree.new_object (from 0 3) (class_type (record {
        parts = (named 26 4) ∷ (named 27 6) ∷ [];
        span = from 4 7;
      }) no_types 0 (from 4 7)) (tree.more_expressions (tree.name (named 23 8)) tree.no_expressions)
          (from 0 10)),
      [],
    )
unfolding opened
new_row = refl

-- new G<A, int[]>()
generic_new_row : (at names texts 12).expression 1 (wd word.New 0 ∷ id 32 4 ∷ sy symbol.Less 5 ∷ id 26 6 ∷ sy symbol.Comma 7 ∷ wd word.Int 9 ∷ sy
    symbol.OpenBracket 12 ∷ sy symbol.CloseBracket 13 ∷ sy symbol.Greater 14 ∷ sy symbol.OpenParen 15 ∷ sy
    symbol.CloseParen 16 ∷ []) ≡ Some (
      (tree.new_object (from 0 3) (class_type (record {
        parts = (named 32 4) ∷ [];
        span =
            from 4 5;
      }) (more_types (class_type (record { parts = (named 26 6) ∷ []; span = from 6 7 }) no_types 0 (from 6
          7)) (more_types (primitive prim.Int 1 (from 9 14)) no_types)) 0 (from 4 15)) tree.no_expressions (from 0 17)),
      [],
    )
unfolding opened
generic_new_row = refl

-- new int[3][]
new_array_row : (at names texts 12).expression 1 (wd word.New 0 ∷ wd word.Int 4 ∷ sy
    symbol.OpenBracket 7 ∷ num kind.IntLiteral 3 8 9 ∷ sy symbol.CloseBracket 9 ∷ sy symbol.OpenBracket 10 ∷ sy
    symbol.CloseBracket 11 ∷ []) ≡ Some (
      (tree.new_array (primitive prim.Int 0 (from 4 7)) (tree.more_expressions (tree.literal
          (lit.Int (pos 3)) (from 8 9)) tree.no_expressions) 1 (from 0 12)),
      [],
    )
unfolding opened
new_array_row = refl

-- new A[a][b][][]
new_lengths_row : (at names texts 12).expression 1 (wd word.New 0 ∷ id 26 4 ∷ sy symbol.OpenBracket 5 ∷ id 0 6 ∷ sy
    symbol.CloseBracket 7 ∷ sy symbol.OpenBracket 8 ∷ id 1 9 ∷ sy symbol.CloseBracket 10 ∷ sy symbol.OpenBracket 11
    ∷ sy symbol.CloseBracket 12 ∷ sy symbol.OpenBracket 13 ∷ sy symbol.CloseBracket 14 ∷ []) ≡ Some (
      (tree.new_array (class_type (record { parts = (named 26 4) ∷ []; span = from 4 5 })
          no_types 0 (from 4 5)) (tree.more_expressions (tree.name (named 0 6)) (tree.more_expressions (tree.name (named 1
          9)) tree.no_expressions)) 2 (from 0 15)),
      [],
    )
unfolding opened
new_lengths_row = refl

-- new int[3].x
new_array_length_row : (at names texts 12).expression 1 (wd word.New 0 ∷ wd word.Int 4 ∷ sy symbol.OpenBracket 7 ∷ num kind.IntLiteral 3 8 9 ∷ sy
    symbol.CloseBracket 9 ∷ sy symbol.Dot 10 ∷ id 23 11 ∷ []) ≡ Some (
      (tree.select (tree.new_array (primitive prim.Int 0 (from 4 7))
          (tree.more_expressions (tree.literal (lit.Int (pos 3)) (from 8 9)) tree.no_expressions) 0 (from 0 10)) (named 23
          11) (from 0 12)),
      [],
    )
unfolding opened
new_array_length_row = refl

-- new int[]{1}[0]
array_of_row : (at names texts 12).expression 1 (wd word.New 0 ∷ wd word.Int 4 ∷ sy
    symbol.OpenBracket 7 ∷ sy symbol.CloseBracket 8 ∷ sy symbol.OpenBrace 9 ∷ num kind.IntLiteral 1 10 11 ∷ sy
    symbol.CloseBrace 11 ∷ sy symbol.OpenBracket 12 ∷ num kind.IntLiteral 0 13 14 ∷ sy symbol.CloseBracket 14 ∷ []) ≡ Some (
      (tree.index (tree.new_array_of (primitive prim.Int 0 (from 4 7)) 1 (tree.array_init
          (tree.more_expressions (tree.literal (lit.Int (pos 1)) (from 10 11)) tree.no_expressions) (from 9 12)) (from 0
          12)) (tree.literal (lit.Int (pos 0)) (from 13 14)) (from 0 15)),
      [],
    )
unfolding opened
array_of_row = refl

-- new A[][]{{a}, {}, {,}, {b, c,}}
array_of_arrays_row : (at names texts 12).expression 1 (wd word.New 0 ∷ id 26 4 ∷ sy symbol.OpenBracket 5 ∷ sy symbol.CloseBracket 6 ∷ sy symbol.OpenBracket 7 ∷ sy
    symbol.CloseBracket 8 ∷ sy symbol.OpenBrace 9 ∷ sy symbol.OpenBrace 10 ∷ id 0 11 ∷ sy symbol.CloseBrace 12 ∷ sy
    symbol.Comma 13 ∷ sy symbol.OpenBrace 15 ∷ sy symbol.CloseBrace 16 ∷ sy symbol.Comma 17 ∷ sy symbol.OpenBrace 19
    ∷ sy symbol.Comma 20 ∷ sy symbol.CloseBrace 21 ∷ sy symbol.Comma 22 ∷ sy symbol.OpenBrace 24 ∷ id 1 25 ∷ sy
    symbol.Comma 26 ∷ id 2 28 ∷ sy symbol.Comma 29 ∷ sy symbol.CloseBrace 30 ∷ sy symbol.CloseBrace 31 ∷ []) ≡ Some (
      (tree.new_array_of (class_type (record {
        parts = (named 26 4) ∷ [];
        span = from 4 5;
      }) no_types 0 (from 4 5)) 2 (tree.array_init (tree.more_expressions (tree.array_init (tree.more_expressions
          (tree.name (named 0 11)) tree.no_expressions) (from 10 13)) (tree.more_expressions (tree.array_init
          tree.no_expressions (from 15 17)) (tree.more_expressions (tree.array_init tree.no_expressions (from 19 22))
          (tree.more_expressions (tree.array_init (tree.more_expressions (tree.name (named 1 25)) (tree.more_expressions
          (tree.name (named 2 28)) tree.no_expressions)) (from 24 31)) tree.no_expressions)))) (from 9 32)) (from 0 32)),
      [],
    )
unfolding opened
array_of_arrays_row = refl

-- f(new A() { int x; })
anonymous_row : (at names texts 12).expression 1 (id 5 0 ∷ sy symbol.OpenParen 1 ∷ wd word.New 2 ∷ id 26 6 ∷ sy symbol.OpenParen 7 ∷ sy symbol.CloseParen 8
    ∷ sy symbol.OpenBrace 10 ∷ wd word.Int 12 ∷ id 23 16 ∷ sy symbol.Semicolon 17 ∷ sy symbol.CloseBrace 19 ∷ sy
    symbol.CloseParen 20 ∷ []) ≡ Some (
      (tree.call (named 5 0) (tree.more_expressions (tree.new_anonymous (from 2 5) (class_type
          (record { parts = (named 26 6) ∷ []; span = from 6 7 }) no_types 0 (from 6 7)) tree.no_expressions
          (tree.more_members (tree.field [] (primitive prim.Int 0 (from 12 15)) (tree.more_variables (named 23 16) 0
          tree.no_expression tree.no_variables) (from 12 18)) tree.no_members) (from 2 20)) tree.no_expressions) (from 0
          21)),
      [],
    )
unfolding opened
anonymous_row = refl

-- (A) ~x
tilde_cast_row : (at names texts 12).expression 1 (sy symbol.OpenParen 0 ∷ id 26 1 ∷ sy symbol.CloseParen 2 ∷ sy symbol.Tilde 4 ∷ id 23 5 ∷ []) ≡ Some (
  (tree.cast (class_type (record { parts = (named 26 1) ∷ []; span = from 1 2 })
      no_types 0 (from 1 2)) (tree.prefix prefix_op.Tilde (from 4 5) (tree.name (named 23 5)) (from 4 6)) (from 0 6)),
  [],
)
unfolding opened
tilde_cast_row = refl

-- f((A) 1, (A) 2L, (A) 'x', (A) "x", (A) true, (A) false, (A) null)
literal_casts_row : (at names texts 12).expression 1 (id 5 0 ∷
    sy symbol.OpenParen 1 ∷ sy symbol.OpenParen 2 ∷ id 26 3 ∷ sy symbol.CloseParen 4 ∷ num kind.IntLiteral 1 6 7 ∷
    sy symbol.Comma 7 ∷ sy symbol.OpenParen 9 ∷ id 26 10 ∷ sy symbol.CloseParen 11 ∷ num kind.LongLiteral 2 13 15 ∷
    sy symbol.Comma 15 ∷ sy symbol.OpenParen 17 ∷ id 26 18 ∷ sy symbol.CloseParen 19 ∷ num kind.CharLiteral 120 21 24 ∷
    sy symbol.Comma 24 ∷ sy symbol.OpenParen 26 ∷ id 26 27 ∷ sy symbol.CloseParen 28 ∷ num kind.TextLiteral 0 30 33 ∷
    sy symbol.Comma 33 ∷ sy symbol.OpenParen 35 ∷ id 26 36 ∷ sy symbol.CloseParen 37 ∷ wd word.True 39 ∷
    sy symbol.Comma 43 ∷ sy symbol.OpenParen 45 ∷ id 26 46 ∷ sy symbol.CloseParen 47 ∷ wd word.False 49 ∷
    sy symbol.Comma 54 ∷ sy symbol.OpenParen 56 ∷ id 26 57 ∷ sy symbol.CloseParen 58 ∷ wd word.Null 60 ∷
    sy symbol.CloseParen 64 ∷ []) ≡ Some (
      (tree.call (named 5 0) (tree.more_expressions
          (tree.cast (class_type (record { parts = (named 26 3) ∷ []; span = from 3 4 }) no_types 0 (from 3 4))
          (tree.literal (lit.Int (pos 1)) (from 6 7)) (from 2 7)) (tree.more_expressions
          (tree.cast (class_type (record { parts = (named 26 10) ∷ []; span = from 10 11 }) no_types 0 (from 10 11))
          (tree.literal (lit.Long (pos 2)) (from 13 15)) (from 9 15)) (tree.more_expressions
          (tree.cast (class_type (record { parts = (named 26 18) ∷ []; span = from 18 19 }) no_types 0 (from 18 19))
          (tree.literal (lit.Char (pos 120)) (from 21 24)) (from 17 24)) (tree.more_expressions
          (tree.cast (class_type (record { parts = (named 26 27) ∷ []; span = from 27 28 }) no_types 0 (from 27 28))
          (tree.literal (lit.Text (codes "x")) (from 30 33)) (from 26 33))
          (tree.more_expressions (tree.cast (class_type (record { parts = (named 26 36) ∷ []; span = from 36 37 }) no_types 0
          (from 36 37)) (tree.literal (lit.Bool true) (from 39 43)) (from 35 43))
          (tree.more_expressions (tree.cast (class_type (record { parts = (named 26 46) ∷ []; span = from 46 47 }) no_types 0
          (from 46 47)) (tree.literal (lit.Bool false) (from 49 54)) (from 45 54))
          (tree.more_expressions (tree.cast (class_type (record { parts = (named 26 57) ∷ []; span = from 57 58 }) no_types 0
          (from 57 58)) (tree.literal lit.Null (from 60 64)) (from 56 64)) tree.no_expressions))))))) (from 0 65)),
      [],
    )
unfolding opened
literal_casts_row = refl

-- (A) this
this_cast_row : (at names texts 12).expression 1 (sy symbol.OpenParen 0 ∷ id 26 1 ∷
    sy symbol.CloseParen 2 ∷ wd word.This 4 ∷ []) ≡ Some (
      (tree.cast (class_type (record { parts = (named 26 1) ∷ []; span = from 1 2 })
          no_types 0 (from 1 2)) (tree.this (from 4 8)) (from 0 8)),
      [],
    )
unfolding opened
this_cast_row = refl

-- (A) super.x
super_cast_row : (at names texts 12).expression 1 (sy symbol.OpenParen 0 ∷ id 26 1 ∷ sy symbol.CloseParen 2 ∷ wd word.Super 4 ∷ sy symbol.Dot 9 ∷ id 23 10 ∷ []) ≡ Some (
  (tree.cast (class_type (record { parts = (named 26 1) ∷ []; span = from 1 2 })
      no_types 0 (from 1 2)) (tree.super_select (from 4 9) (named 23 10) (from 4 11)) (from 0 11)),
  [],
)
unfolding opened
super_cast_row = refl

-- (A) new B()
new_cast_row : (at names texts 12).expression 1 (sy symbol.OpenParen 0 ∷ id 26 1 ∷
    sy symbol.CloseParen 2 ∷ wd word.New 4 ∷ id 27 8 ∷ sy symbol.OpenParen 9 ∷ sy symbol.CloseParen 10 ∷ []) ≡ Some (
      (tree.cast (class_type (record { parts = (named 26 1) ∷ []; span = from 1 2 })
          no_types 0 (from 1 2))
          (tree.new_object (from 4 7) (class_type (record { parts = (named 27 8) ∷ []; span = from 8 9 }) no_types 0
          (from 8 9)) tree.no_expressions (from 4 11)) (from 0 11)),
      [],
    )
unfolding opened
new_cast_row = refl

-- (A) (B) x
cast_of_cast_row : (at names texts 12).expression 1 (sy symbol.OpenParen 0 ∷ id 26 1 ∷
    sy symbol.CloseParen 2 ∷ sy symbol.OpenParen 4 ∷ id 27 5 ∷ sy symbol.CloseParen 6 ∷ id 23 8 ∷ []) ≡ Some (
      (tree.cast (class_type (record { parts = (named 26 1) ∷ []; span = from 1 2 })
          no_types 0 (from 1 2)) (tree.cast (class_type (record { parts = (named 27 5) ∷ []; span = from 5 6 }) no_types 0
          (from 5 6)) (tree.name (named 23 8)) (from 4 9)) (from 0 9)),
      [],
    )
unfolding opened
cast_of_cast_row = refl

-- (boolean) (byte) (short) (char) (int) (long) x
primitive_casts_row : (at names texts 12).expression 1 (sy symbol.OpenParen 0 ∷ wd word.Boolean 1 ∷ sy symbol.CloseParen 8 ∷
    sy symbol.OpenParen 10 ∷ wd word.Byte 11 ∷ sy symbol.CloseParen 15 ∷ sy symbol.OpenParen 17 ∷ wd word.Short 18 ∷
    sy symbol.CloseParen 23 ∷ sy symbol.OpenParen 25 ∷ wd word.Char 26 ∷ sy symbol.CloseParen 30 ∷
    sy symbol.OpenParen 32 ∷ wd word.Int 33 ∷ sy symbol.CloseParen 36 ∷ sy symbol.OpenParen 38 ∷ wd word.Long 39 ∷
    sy symbol.CloseParen 43 ∷ id 23 45 ∷ []) ≡ Some (
      (tree.cast (primitive prim.Boolean 0 (from 1 8))
          (tree.cast (primitive prim.Byte 0 (from 11 15)) (tree.cast (primitive prim.Short 0 (from 18 23))
          (tree.cast (primitive prim.Char 0 (from 26 30)) (tree.cast (primitive prim.Int 0 (from 33 36))
          (tree.cast (primitive prim.Long 0 (from 39 43)) (tree.name (named 23 45)) (from 38 46)) (from 32 46)) (from 25 46))
          (from 17 46)) (from 10 46)) (from 0 46)),
      [],
    )
unfolding opened
primitive_casts_row = refl

-- (A) (int[]) x
cast_of_primitive_cast_row : (at names texts 12).expression 1 (sy symbol.OpenParen 0 ∷ id 26 1 ∷ sy symbol.CloseParen 2 ∷ sy symbol.OpenParen 4 ∷ wd word.Int 5 ∷
    sy symbol.OpenBracket 8 ∷ sy symbol.CloseBracket 9 ∷ sy symbol.CloseParen 10 ∷ id 23 12 ∷ []) ≡ Some (
      (tree.cast (class_type
          (record { parts = (named 26 1) ∷ []; span = from 1 2 }) no_types 0 (from 1 2))
          (tree.cast (primitive prim.Int 1 (from 5 10)) (tree.name (named 23 12)) (from 4 13)) (from 0 13)),
      [],
    )
unfolding opened
cast_of_primitive_cast_row = refl

-- (A) x++
cast_of_postfix_row : (at names texts 12).expression 1 (sy symbol.OpenParen 0 ∷ id 26 1 ∷ sy symbol.CloseParen 2 ∷ id 23 4 ∷ sy symbol.Increment 5 ∷ []) ≡ Some (
  (tree.cast (class_type (record { parts = (named 26 1) ∷ []; span = from 1 2 })
      no_types 0 (from 1 2)) (tree.postfix postfix_op.Increment (from 5 7) (tree.name (named 23 4)) (from 4 7))
      (from 0 7)),
  [],
)
unfolding opened
cast_of_postfix_row = refl

-- (int) a + b
cast_in_sum_row : (at names texts 12).expression 1 (sy symbol.OpenParen 0 ∷ wd word.Int 1 ∷ sy symbol.CloseParen 4 ∷ id 0 6 ∷ sy symbol.Plus 8 ∷
    id 1 10 ∷ []) ≡ Some (
      (tree.binary op.Add (from 8 9)
          (tree.cast (primitive prim.Int 0 (from 1 4)) (tree.name (named 0 6)) (from 0 7)) (tree.name (named 1 10))
          (from 0 11)),
      [],
    )
unfolding opened
cast_in_sum_row = refl

-- (a.b)
bracketed_name_row : (at names texts 12).expression 1 (sy symbol.OpenParen 0 ∷ id 0 1 ∷ sy symbol.Dot 2 ∷ id 1 3 ∷ sy symbol.CloseParen 4 ∷ []) ≡ Some (
  (tree.parens (tree.select (tree.name (named 0 1)) (named 1 3) (from 1 4))
      (from 0 5)),
  [],
)
unfolding opened
bracketed_name_row = refl

-- (a.b.c) - d
bracketed_difference_row : (at names texts 12).expression 1 (sy symbol.OpenParen 0 ∷ id 0 1 ∷ sy symbol.Dot 2 ∷ id 1 3 ∷
    sy symbol.Dot 4 ∷ id 2 5 ∷ sy symbol.CloseParen 6 ∷ sy symbol.Minus 8 ∷ id 3 10 ∷ []) ≡ Some (
      (tree.binary op.Subtract (from 8 9)
          (tree.parens (tree.select (tree.select (tree.name (named 0 1)) (named 1 3) (from 1 4)) (named 2 5) (from 1 6))
          (from 0 7)) (tree.name (named 3 10)) (from 0 11)),
      [],
    )
unfolding opened
bracketed_difference_row = refl

-- (a)[0].b
bracketed_index_row : (at names texts 12).expression 1 (sy symbol.OpenParen 0 ∷ id 0 1 ∷
    sy symbol.CloseParen 2 ∷ sy symbol.OpenBracket 3 ∷ num kind.IntLiteral 0 4 5 ∷ sy symbol.CloseBracket 5 ∷
    sy symbol.Dot 6 ∷ id 1 7 ∷ []) ≡ Some (
      (tree.select (tree.index (tree.parens (tree.name (named 0 1)) (from 0 3))
          (tree.literal (lit.Int (pos 0)) (from 4 5)) (from 0 6)) (named 1 7) (from 0 8)),
      [],
    )
unfolding opened
bracketed_index_row = refl

-- (f()) + (this)
bracketed_call_row : (at names texts 12).expression 1 (sy symbol.OpenParen 0 ∷ id 5 1 ∷
    sy symbol.OpenParen 2 ∷ sy symbol.CloseParen 3 ∷ sy symbol.CloseParen 4 ∷ sy symbol.Plus 6 ∷
    sy symbol.OpenParen 8 ∷ wd word.This 9 ∷ sy symbol.CloseParen 13 ∷ []) ≡ Some (
      (tree.binary op.Add (from 6 7)
          (tree.parens (tree.call (named 5 1) tree.no_expressions (from 1 4)) (from 0 5))
          (tree.parens (tree.this (from 9 13)) (from 8 14)) (from 0 14)),
      [],
    )
unfolding opened
bracketed_call_row = refl

-- a -= b *= c /= d %= e
arithmetic_assignments_row : (at names texts 12).expression 1 (id 0 0 ∷ sy symbol.MinusAssign 2 ∷ id 1 5 ∷ sy symbol.StarAssign 7 ∷
    id 2 10 ∷ sy symbol.SlashAssign 12 ∷ id 3 15 ∷ sy symbol.PercentAssign 17 ∷ id 4 20 ∷ []) ≡ Some (
      (tree.assign (Some op.Subtract) (from 2 4) (tree.name (named 0 0))
          (tree.assign (Some op.Multiply) (from 7 9) (tree.name (named 1 5))
          (tree.assign (Some op.Divide) (from 12 14) (tree.name (named 2 10))
          (tree.assign (Some op.Remainder) (from 17 19) (tree.name (named 3 15)) (tree.name (named 4 20)) (from 15 21))
          (from 10 21)) (from 5 21)) (from 0 21)),
      [],
    )
unfolding opened
arithmetic_assignments_row = refl

-- a <<= b >>= c &= d ^= e |= f
bit_assignments_row : (at names texts 12).expression 1 (id 0 0 ∷ sy symbol.ShiftLeftAssign 2 ∷ id 1 6 ∷
    sy symbol.ShiftRightAssign 8 ∷ id 2 12 ∷ sy symbol.AndAssign 14 ∷ id 3 17 ∷ sy symbol.CaretAssign 19 ∷ id 4 22 ∷
    sy symbol.OrAssign 24 ∷ id 5 27 ∷ []) ≡ Some (
      (tree.assign (Some op.ShiftLeft) (from 2 5) (tree.name (named 0 0))
          (tree.assign (Some op.ShiftRight) (from 8 11) (tree.name (named 1 6))
          (tree.assign (Some op.BitAnd) (from 14 16) (tree.name (named 2 12))
          (tree.assign (Some op.BitXor) (from 19 21) (tree.name (named 3 17))
          (tree.assign (Some op.BitOr) (from 24 26) (tree.name (named 4 22)) (tree.name (named 5 27)) (from 22 28))
          (from 17 28)) (from 12 28)) (from 6 28)) (from 0 28)),
      [],
    )
unfolding opened
bit_assignments_row = refl

-- (A) (a.b)
cast_of_bracketed_name_row : (at names texts 12).expression 1 (sy symbol.OpenParen 0 ∷ id 26 1 ∷ sy symbol.CloseParen 2 ∷ sy symbol.OpenParen 4 ∷ id 0 5 ∷ sy symbol.Dot 6 ∷
    id 1 7 ∷ sy symbol.CloseParen 8 ∷ []) ≡ Some (
      (tree.cast (class_type
          (record { parts = (named 26 1) ∷ []; span = from 1 2 }) no_types 0 (from 1 2))
          (tree.parens (tree.select (tree.name (named 0 5)) (named 1 7) (from 5 8)) (from 4 9)) (from 0 9)),
      [],
    )
unfolding opened
cast_of_bracketed_name_row = refl
