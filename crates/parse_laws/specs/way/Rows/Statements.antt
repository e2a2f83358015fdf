-- Worked rows of statements: the trees that spell these texts are the ones that are read.
use Rattle.std.specs.Prelude.{◌≡◌, refl, [], ◌∷◌, Some, None, true, false, pos}
use Rattle.je_ast.specs.Types.{class_type, more_types, no_types, primitive}
use Rattle.je_grammar.specs.Rows.Scale.{from, id, named, names, num, sy, texts, wd}
use Rattle.je_ast.specs.Trees as tree
use Rattle.je_ast.specs.declared.decl.ModifierKind.TheVariants as modifier
use Rattle.je_ast.specs.declared.expr.Literal.TheVariants as lit
use Rattle.je_ast.specs.declared.operator.BinaryOp.TheVariants as op
use Rattle.je_ast.specs.declared.operator.PostfixOp.TheVariants as postfix_op
use Rattle.je_ast.specs.declared.operator.PrefixOp.TheVariants as prefix_op
use Rattle.je_ast.specs.declared.ty_name.Primitive.TheVariants as prim
use Rattle.je_token.specs.declared.keyword.Keyword.TheVariants as word
use Rattle.je_token.specs.declared.symbol.Symbol.TheVariants as symbol
use Rattle.je_token.specs.declared.token.TokenKind.TheVariants as kind
use Rattle.parse_laws.specs.way.Knot.{at}
use Rattle.parse_laws.specs.way.Opened.{opened}

-- G<G<A>> x;
generic_local_row : (at names texts 12).block_statement (id 32 0 ∷ sy symbol.Less 1 ∷ id 32 2 ∷ sy symbol.Less 3 ∷ id 26 4 ∷ sy symbol.ShiftRight 5 ∷ id 23
    8 ∷ sy symbol.Semicolon 9 ∷ []) ≡ Some (
      (tree.local (from 0 1) false (class_type (record {
        parts = (named 32 0)
            ∷ [];
        span = from 0 1;
      }) (more_types (class_type (record { parts = (named 32 2) ∷ []; span = from 2 3 })
          (more_types (class_type (record { parts = (named 26 4) ∷ []; span = from 4 5 }) no_types 0 (from 4 5)) no_types)
          0 (from 2 6)) no_types) 0 (from 0 7)) (tree.more_variables (named 23 8) 0 tree.no_expression tree.no_variables)
          (from 0 10)),
      [],
    )
unfolding opened
generic_local_row = refl

-- G<G<G<A>>> x = null;
deep_generic_row : (at names texts 12).block_statement (id 32 0 ∷ sy symbol.Less 1 ∷ id 32 2 ∷ sy symbol.Less 3 ∷ id 32
    4 ∷ sy symbol.Less 5 ∷ id 26 6 ∷ sy symbol.UnsignedShiftRight 7 ∷ id 23 11 ∷ sy symbol.Assign 13 ∷ wd word.Null
    15 ∷ sy symbol.Semicolon 19 ∷ []) ≡ Some (
      (tree.local (from 0 1) false (class_type (record {
        parts = (named 32 0)
            ∷ [];
        span = from 0 1;
      }) (more_types (class_type (record { parts = (named 32 2) ∷ []; span = from 2 3 })
          (more_types (class_type (record { parts = (named 32 4) ∷ []; span = from 4 5 }) (more_types (class_type (record
          { parts = (named 26 6) ∷ []; span = from 6 7 }) no_types 0 (from 6 7)) no_types) 0 (from 4 8)) no_types) 0 (from
          2 9)) no_types) 0 (from 0 10)) (tree.more_variables (named 23 11) 0 (tree.an_expression (tree.literal lit.Null
          (from 15 19))) tree.no_variables) (from 0 20)),
      [],
    )
unfolding opened
deep_generic_row = refl

-- int a[] = {1, 2,}, b;
array_local_row : (at names texts 12).block_statement (wd word.Int 0 ∷ id 0 4 ∷ sy symbol.OpenBracket 5 ∷ sy symbol.CloseBracket 6 ∷ sy symbol.Assign 8 ∷
    sy symbol.OpenBrace 10 ∷ num kind.IntLiteral 1 11 12 ∷ sy symbol.Comma 12 ∷ num kind.IntLiteral 2 14 15 ∷ sy
    symbol.Comma 15 ∷ sy symbol.CloseBrace 16 ∷ sy symbol.Comma 17 ∷ id 1 19 ∷ sy symbol.Semicolon 20 ∷ []) ≡ Some (
      (tree.local (from 0 3) false (primitive prim.Int 0 (from 0 3))
          (tree.more_variables (named 0 4) 1 (tree.an_expression (tree.array_init (tree.more_expressions (tree.literal
          (lit.Int (pos 1)) (from 11 12)) (tree.more_expressions (tree.literal (lit.Int (pos 2)) (from 14 15))
          tree.no_expressions)) (from 10 17))) (tree.more_variables (named 1 19) 0 tree.no_expression tree.no_variables))
          (from 0 21)),
      [],
    )
unfolding opened
array_local_row = refl

-- final A.B[][] x = y, z[];
final_local_row : (at names texts 12).block_statement (wd word.Final 0 ∷ id 26 6 ∷ sy symbol.Dot 7 ∷ id 27 8 ∷ sy symbol.OpenBracket
    9 ∷ sy symbol.CloseBracket 10 ∷ sy symbol.OpenBracket 11 ∷ sy symbol.CloseBracket 12 ∷ id 23 14 ∷ sy
    symbol.Assign 16 ∷ id 24 18 ∷ sy symbol.Comma 19 ∷ id 25 21 ∷ sy symbol.OpenBracket 22 ∷ sy symbol.CloseBracket
    23 ∷ sy symbol.Semicolon 24 ∷ []) ≡ Some (
      (tree.local (from 0 5) true (class_type (record {
        parts = (named 26 6) ∷
            (named 27 8) ∷ [];
        span = from 6 9;
      }) no_types 2 (from 6 13)) (tree.more_variables (named 23 14) 0
          (tree.an_expression (tree.name (named 24 18))) (tree.more_variables (named 25 21) 1 tree.no_expression
          tree.no_variables)) (from 0 25)),
      [],
    )
unfolding opened
final_local_row = refl

-- final abstract class A { }
local_class_row : (at names texts 12).block_statement (wd word.Final 0 ∷ wd word.Abstract 6 ∷ wd word.Class 15 ∷ id
    26 21 ∷ sy symbol.OpenBrace 23 ∷ sy symbol.CloseBrace 25 ∷ []) ≡ Some (
      (tree.local_class (tree.class_declaration ((record {
        kind =
            modifier.Final;
        span = from 0 5;
      }) ∷ ((record { kind = modifier.Abstract; span = from 6 14 }) ∷ [])) (named 26
          21) [] None no_types tree.no_members (from 0 26))),
      [],
    )
unfolding opened
local_class_row = refl

-- if (a) if (b) c(); else d();
else_row : (at names texts 12).block_statement (wd word.If 0 ∷ sy symbol.OpenParen 3 ∷ id 0 4 ∷ sy symbol.CloseParen 5 ∷ wd word.If 7 ∷ sy
    symbol.OpenParen 10 ∷ id 1 11 ∷ sy symbol.CloseParen 12 ∷ id 2 14 ∷ sy symbol.OpenParen 15 ∷ sy
    symbol.CloseParen 16 ∷ sy symbol.Semicolon 17 ∷ wd word.Else 19 ∷ id 3 24 ∷ sy symbol.OpenParen 25 ∷ sy
    symbol.CloseParen 26 ∷ sy symbol.Semicolon 27 ∷ []) ≡ Some (
      (tree.if_only (from 0 2) (tree.name (named 0 4)) (tree.if_else (from 7 9)
          (tree.name (named 1 11)) (tree.expression_statement (from 14 15) (tree.call (named 2 14) tree.no_expressions (from 14 17)) (from
          14 18)) (tree.expression_statement (from 24 25) (tree.call (named 3 24) tree.no_expressions (from 24 27)) (from 24 28)) (from 7
          28)) (from 0 28)),
      [],
    )
unfolding opened
else_row = refl

-- if (a) if (b) c(); else d(); else e();
else_else_row : (at names texts 12).block_statement (wd word.If 0 ∷ sy symbol.OpenParen 3 ∷ id 0 4 ∷ sy symbol.CloseParen 5 ∷ wd word.If 7 ∷ sy
    symbol.OpenParen 10 ∷ id 1 11 ∷ sy symbol.CloseParen 12 ∷ id 2 14 ∷ sy symbol.OpenParen 15 ∷ sy
    symbol.CloseParen 16 ∷ sy symbol.Semicolon 17 ∷ wd word.Else 19 ∷ id 3 24 ∷ sy symbol.OpenParen 25 ∷ sy
    symbol.CloseParen 26 ∷ sy symbol.Semicolon 27 ∷ wd word.Else 29 ∷ id 4 34 ∷ sy symbol.OpenParen 35 ∷ sy
    symbol.CloseParen 36 ∷ sy symbol.Semicolon 37 ∷ []) ≡ Some (
      (tree.if_else (from 0 2) (tree.name (named 0 4)) (tree.if_else (from 7 9)
          (tree.name (named 1 11)) (tree.expression_statement (from 14 15) (tree.call (named 2 14) tree.no_expressions (from 14 17)) (from
          14 18)) (tree.expression_statement (from 24 25) (tree.call (named 3 24) tree.no_expressions (from 24 27)) (from 24 28)) (from 7
          28)) (tree.expression_statement (from 34 35) (tree.call (named 4 34) tree.no_expressions (from 34 37)) (from 34 38)) (from 0
          38)),
      [],
    )
unfolding opened
else_else_row = refl

-- if (a) ;
if_row : (at names texts 12).block_statement (wd word.If 0 ∷ sy symbol.OpenParen 3 ∷ id 0 4 ∷ sy symbol.CloseParen 5 ∷ sy symbol.Semicolon 7 ∷ []) ≡ Some (
  (tree.if_only (from 0 2) (tree.name (named 0 4)) (tree.empty (from 7 8)) (from 0
      8)),
  [],
)
unfolding opened
if_row = refl

-- a: while (b) { continue a; }
labelled_row : (at names texts 12).block_statement (id 0 0 ∷ sy symbol.Colon 1 ∷ wd word.While 3 ∷ sy
    symbol.OpenParen 9 ∷ id 1 10 ∷ sy symbol.CloseParen 11 ∷ sy symbol.OpenBrace 13 ∷ wd word.Continue 15 ∷ id 0 24
    ∷ sy symbol.Semicolon 25 ∷ sy symbol.CloseBrace 27 ∷ []) ≡ Some (
      (tree.labelled (named 0 0) (tree.while (from 3 8) (tree.name (named 1 10))
          (tree.block (from 13 14) (tree.more_statements (tree.continue (from 15 23) (Some (named 0 24)) (from 15 26))
          tree.no_statements) (from 27 28)) (from 3 28)) (from 0 28)),
      [],
    )
unfolding opened
labelled_row = refl

-- do x++; while (a);
do_row : (at names texts 12).block_statement (wd word.Do 0
    ∷ id 23 3 ∷ sy symbol.Increment 4 ∷ sy symbol.Semicolon 6 ∷ wd word.While 8 ∷ sy symbol.OpenParen 14 ∷ id 0 15 ∷
    sy symbol.CloseParen 16 ∷ sy symbol.Semicolon 17 ∷ []) ≡ Some (
      (tree.do_while (from 0 2) (tree.expression_statement (from 3 4) (tree.postfix postfix_op.Increment
          (from 4 6) (tree.name (named 23 3)) (from 3 6)) (from 3 7)) (tree.name (named 0 15)) (from 0 18)),
      [],
    )
unfolding opened
do_row = refl

-- for (int i = 0, j = 1; i < n; i++, --j) { }
for_row : (at names texts 12).block_statement (wd word.For 0 ∷ sy symbol.OpenParen 4 ∷ wd word.Int 5 ∷ id 8 9 ∷ sy symbol.Assign 11 ∷ num
    kind.IntLiteral 0 13 14 ∷ sy symbol.Comma 14 ∷ id 9 16 ∷ sy symbol.Assign 18 ∷ num kind.IntLiteral 1 20 21 ∷ sy
    symbol.Semicolon 21 ∷ id 8 23 ∷ sy symbol.Less 25 ∷ id 13 27 ∷ sy symbol.Semicolon 28 ∷ id 8 30 ∷ sy
    symbol.Increment 31 ∷ sy symbol.Comma 33 ∷ sy symbol.Decrement 35 ∷ id 9 37 ∷ sy symbol.CloseParen 38 ∷ sy
    symbol.OpenBrace 40 ∷ sy symbol.CloseBrace 42 ∷ []) ≡ Some (
      (tree.for (from 0 3) (tree.locals false (primitive prim.Int 0 (from 5 8))
          (tree.more_variables (named 8 9) 0 (tree.an_expression (tree.literal (lit.Int (pos 0)) (from 13 14)))
          (tree.more_variables (named 9 16) 0 (tree.an_expression (tree.literal (lit.Int (pos 1)) (from 20 21)))
          tree.no_variables))) (tree.an_expression (tree.binary op.Less (from 25 26) (tree.name (named 8 23)) (tree.name
          (named 13 27)) (from 23 28))) (tree.more_expressions (tree.postfix postfix_op.Increment (from 31 33) (tree.name
          (named 8 30)) (from 30 33)) (tree.more_expressions (tree.prefix prefix_op.Decrement (from 35 37) (tree.name
          (named 9 37)) (from 35 38)) tree.no_expressions)) (tree.block (from 40 41) tree.no_statements (from 42 43))
          (from 0 43)),
      [],
    )
unfolding opened
for_row = refl

-- for (;;) break;
empty_for_row : (at names texts 12).block_statement (wd word.For 0 ∷ sy symbol.OpenParen
    4 ∷ sy symbol.Semicolon 5 ∷ sy symbol.Semicolon 6 ∷ sy symbol.CloseParen 7 ∷ wd word.Break 9 ∷ sy
    symbol.Semicolon 14 ∷ []) ≡ Some (
      (tree.for (from 0 3) (tree.steps tree.no_expressions) tree.no_expression
          tree.no_expressions (tree.break (from 9 14) None (from 9 15)) (from 0 15)),
      [],
    )
unfolding opened
empty_for_row = refl

-- for (i = 0; ; f()) ;
steps_for_row : (at names texts 12).block_statement (wd word.For 0 ∷ sy symbol.OpenParen 4
    ∷ id 8 5 ∷ sy symbol.Assign 7 ∷ num kind.IntLiteral 0 9 10 ∷ sy symbol.Semicolon 10 ∷ sy symbol.Semicolon 12 ∷
    id 5 14 ∷ sy symbol.OpenParen 15 ∷ sy symbol.CloseParen 16 ∷ sy symbol.CloseParen 17 ∷ sy symbol.Semicolon 19 ∷
    []) ≡ Some (
      (tree.for (from 0 3) (tree.steps (tree.more_expressions (tree.assign None
          (from 7 8) (tree.name (named 8 5)) (tree.literal (lit.Int (pos 0)) (from 9 10)) (from 5 10))
          tree.no_expressions)) tree.no_expression (tree.more_expressions (tree.call (named 5 14) tree.no_expressions
          (from 14 17)) tree.no_expressions) (tree.empty (from 19 20)) (from 0 20)),
      [],
    )
unfolding opened
steps_for_row = refl

-- for (final A x : a) x.f();
for_each_row : (at names texts 12).block_statement (wd word.For 0 ∷ sy symbol.OpenParen 4 ∷ wd word.Final 5 ∷ id 26 11 ∷ id 23 13 ∷ sy symbol.Colon 15 ∷ id 0
    17 ∷ sy symbol.CloseParen 18 ∷ id 23 20 ∷ sy symbol.Dot 21 ∷ id 5 22 ∷ sy symbol.OpenParen 23 ∷ sy
    symbol.CloseParen 24 ∷ sy symbol.Semicolon 25 ∷ []) ≡ Some (
      (tree.for_each (from 0 3) true (class_type (record {
        parts = (named 26 11) ∷
            [];
        span = from 11 12;
      }) no_types 0 (from 11 12)) (named 23 13) (tree.name (named 0 17)) (tree.expression_statement (from 20 21)
          (tree.call_on (tree.name (named 23 20)) (named 5 22) tree.no_expressions (from 20 25)) (from 20 26)) (from 0
          26)),
      [],
    )
unfolding opened
for_each_row = refl

-- switch (a) { case 1: case 2: f(); return; default: break; case 3: }
switch_row : (at names texts 12).block_statement (wd word.Switch 0 ∷ sy symbol.OpenParen 7 ∷ id 0 8 ∷ sy
    symbol.CloseParen 9 ∷ sy symbol.OpenBrace 11 ∷ wd word.Case 13 ∷ num kind.IntLiteral 1 18 19 ∷ sy symbol.Colon
    19 ∷ wd word.Case 21 ∷ num kind.IntLiteral 2 26 27 ∷ sy symbol.Colon 27 ∷ id 5 29 ∷ sy symbol.OpenParen 30 ∷ sy
    symbol.CloseParen 31 ∷ sy symbol.Semicolon 32 ∷ wd word.Return 34 ∷ sy symbol.Semicolon 40 ∷ wd word.Default 42
    ∷ sy symbol.Colon 49 ∷ wd word.Break 51 ∷ sy symbol.Semicolon 56 ∷ wd word.Case 58 ∷ num kind.IntLiteral 3 63 64
    ∷ sy symbol.Colon 64 ∷ sy symbol.CloseBrace 66 ∷ []) ≡ Some (
      (tree.switch (from 0 6) (tree.name (named 0 8)) (tree.more_groups
          (tree.case_label (tree.literal (lit.Int (pos 1)) (from 18 19)) (tree.case_label (tree.literal (lit.Int (pos 2))
          (from 26 27)) tree.no_labels)) (tree.more_statements (tree.expression_statement (from 29 30) (tree.call (named 5 29)
          tree.no_expressions (from 29 32)) (from 29 33)) (tree.more_statements (tree.return (from 34 40)
          tree.no_expression (from 34 41)) tree.no_statements)) (tree.more_groups (tree.default_label (from 42 49)
          tree.no_labels) (tree.more_statements (tree.break (from 51 56) None (from 51 57)) tree.no_statements)
          (tree.more_groups (tree.case_label (tree.literal (lit.Int (pos 3)) (from 63 64)) tree.no_labels)
          tree.no_statements tree.no_groups))) (from 0 67)),
      [],
    )
unfolding opened
switch_row = refl

-- switch (a) { }
empty_switch_row : (at names texts 12).block_statement (wd word.Switch 0 ∷ sy symbol.OpenParen 7 ∷ id 0 8 ∷ sy symbol.CloseParen 9 ∷ sy symbol.OpenBrace 11 ∷ sy
    symbol.CloseBrace 13 ∷ []) ≡ Some (
      (tree.switch (from 0 6) (tree.name (named 0 8)) tree.no_groups (from 0
          14)),
      [],
    )
unfolding opened
empty_switch_row = refl

-- switch (a) { default: case 1: f(); }
default_first_row : (at names texts 12).block_statement (wd word.Switch 0 ∷ sy symbol.OpenParen 7 ∷ id 0 8 ∷ sy
    symbol.CloseParen 9 ∷ sy symbol.OpenBrace 11 ∷ wd word.Default 13 ∷ sy symbol.Colon 20 ∷ wd word.Case 22 ∷ num
    kind.IntLiteral 1 27 28 ∷ sy symbol.Colon 28 ∷ id 5 30 ∷ sy symbol.OpenParen 31 ∷ sy symbol.CloseParen 32 ∷ sy
    symbol.Semicolon 33 ∷ sy symbol.CloseBrace 35 ∷ []) ≡ Some (
      (tree.switch (from 0 6) (tree.name (named 0 8)) (tree.more_groups
          (tree.default_label (from 13 20) (tree.case_label (tree.literal (lit.Int (pos 1)) (from 27 28)) tree.no_labels))
          (tree.more_statements (tree.expression_statement (from 30 31) (tree.call (named 5 30) tree.no_expressions (from 30 33)) (from 30
          34)) tree.no_statements) tree.no_groups) (from 0 36)),
      [],
    )
unfolding opened
default_first_row = refl

-- { break a; continue; }
break_row : (at names texts 12).block_statement (sy symbol.OpenBrace 0 ∷ wd word.Break 2 ∷ id 0 8 ∷ sy symbol.Semicolon 9 ∷
    wd word.Continue 11 ∷ sy symbol.Semicolon 19 ∷ sy symbol.CloseBrace 21 ∷ []) ≡ Some (
      (tree.block (from 0 1) (tree.more_statements (tree.break (from 2 7) (Some
          (named 0 8)) (from 2 10)) (tree.more_statements (tree.continue (from 11 19) None (from 11 20))
          tree.no_statements)) (from 21 22)),
      [],
    )
unfolding opened
break_row = refl

-- return a;
return_row : (at names texts 12).block_statement (wd word.Return 0 ∷ id 0 7 ∷ sy symbol.Semicolon 8 ∷ []) ≡ Some (
  (tree.return (from 0 6) (tree.an_expression (tree.name (named 0 7))) (from 0
      9)),
  [],
)
unfolding opened
return_row = refl

-- throw new A();
throw_row : (at names texts 12).block_statement (wd word.Throw 0 ∷ wd word.New 6 ∷ id 26 10 ∷ sy symbol.OpenParen 11 ∷ sy symbol.CloseParen 12 ∷ sy
    symbol.Semicolon 13 ∷ []) ≡ Some (
      (tree.throw (from 0 5) (tree.new_object (from 6 9) (class_type (record {
        parts
            = (named 26 10) ∷ [];
        span = from 10 11;
      }) no_types 0 (from 10 11)) tree.no_expressions (from 6 13)) (from 0
          14)),
      [],
    )
unfolding opened
throw_row = refl

-- try { } catch (A.B a) { f(); }
try_row : (at names texts 12).block_statement (wd word.Try 0 ∷ sy symbol.OpenBrace 4 ∷ sy
    symbol.CloseBrace 6 ∷ wd word.Catch 8 ∷ sy symbol.OpenParen 14 ∷ id 26 15 ∷ sy symbol.Dot 16 ∷ id 27 17 ∷ id 0
    19 ∷ sy symbol.CloseParen 20 ∷ sy symbol.OpenBrace 22 ∷ id 5 24 ∷ sy symbol.OpenParen 25 ∷ sy symbol.CloseParen
    26 ∷ sy symbol.Semicolon 27 ∷ sy symbol.CloseBrace 29 ∷ []) ≡ Some (
      (tree.try (from 0 3) (from 4 5) tree.no_statements (from 6 7) (tree.more_catches
          false (record { parts = (named 26 15) ∷ (named 27 17) ∷ []; span = from 15 18 }) (named 0 19) (from 22 23)
          (tree.more_statements (tree.expression_statement (from 24 25) (tree.call (named 5 24) tree.no_expressions (from 24 27)) (from 24
          28)) tree.no_statements) (from 29 30) tree.no_catches) (from 0 30)),
      [],
    )
unfolding opened
try_row = refl

-- try { } catch (final A a) { } catch (B b) { } finally { x--; }
finally_row : (at names texts 12).block_statement (wd word.Try 0 ∷ sy
    symbol.OpenBrace 4 ∷ sy symbol.CloseBrace 6 ∷ wd word.Catch 8 ∷ sy symbol.OpenParen 14 ∷ wd word.Final 15 ∷ id
    26 21 ∷ id 0 23 ∷ sy symbol.CloseParen 24 ∷ sy symbol.OpenBrace 26 ∷ sy symbol.CloseBrace 28 ∷ wd word.Catch 30
    ∷ sy symbol.OpenParen 36 ∷ id 27 37 ∷ id 1 39 ∷ sy symbol.CloseParen 40 ∷ sy symbol.OpenBrace 42 ∷ sy
    symbol.CloseBrace 44 ∷ wd word.Finally 46 ∷ sy symbol.OpenBrace 54 ∷ id 23 56 ∷ sy symbol.Decrement 57 ∷ sy
    symbol.Semicolon 59 ∷ sy symbol.CloseBrace 61 ∷ []) ≡ Some (
      (tree.try_finally (from 0 3) (from 4 5) tree.no_statements (from 6 7)
          (tree.more_catches true (record { parts = (named 26 21) ∷ []; span = from 21 22 }) (named 0 23) (from 26 27)
          tree.no_statements (from 28 29) (tree.more_catches false (record {
            parts = (named 27 37) ∷ [];
            span = from 37 38;
          }) (named 1 39) (from 42 43) tree.no_statements (from 44 45) tree.no_catches)) (from 46 53) (from 54 55)
          (tree.more_statements (tree.expression_statement (from 56 57) (tree.postfix postfix_op.Decrement (from 57 59) (tree.name (named
          23 56)) (from 56 59)) (from 56 60)) tree.no_statements) (from 61 62) (from 0 62)),
      [],
    )
unfolding opened
finally_row = refl

-- try { } finally { }
finally_alone_row : (at names texts 12).block_statement (wd word.Try 0 ∷ sy
    symbol.OpenBrace 4 ∷ sy symbol.CloseBrace 6 ∷ wd word.Finally 8 ∷ sy symbol.OpenBrace 16 ∷ sy symbol.CloseBrace
    18 ∷ []) ≡ Some (
      (tree.try_finally (from 0 3) (from 4 5) tree.no_statements (from 6 7)
          tree.no_catches (from 8 15) (from 16 17) tree.no_statements (from 18 19) (from 0 19)),
      [],
    )
unfolding opened
finally_alone_row = refl

-- { a = b; ++a; a++; f(); a.f(); super.f(); new A(); new A() { }; }
steps_row : (at names texts 12).block_statement (sy symbol.OpenBrace 0 ∷ id 0 2 ∷ sy symbol.Assign 4
    ∷ id 1 6 ∷ sy symbol.Semicolon 7 ∷ sy symbol.Increment 9 ∷ id 0 11 ∷ sy symbol.Semicolon 12 ∷ id 0 14 ∷ sy
    symbol.Increment 15 ∷ sy symbol.Semicolon 17 ∷ id 5 19 ∷ sy symbol.OpenParen 20 ∷ sy symbol.CloseParen 21 ∷ sy
    symbol.Semicolon 22 ∷ id 0 24 ∷ sy symbol.Dot 25 ∷ id 5 26 ∷ sy symbol.OpenParen 27 ∷ sy symbol.CloseParen 28 ∷
    sy symbol.Semicolon 29 ∷ wd word.Super 31 ∷ sy symbol.Dot 36 ∷ id 5 37 ∷ sy symbol.OpenParen 38 ∷ sy
    symbol.CloseParen 39 ∷ sy symbol.Semicolon 40 ∷ wd word.New 42 ∷ id 26 46 ∷ sy symbol.OpenParen 47 ∷ sy
    symbol.CloseParen 48 ∷ sy symbol.Semicolon 49 ∷ wd word.New 51 ∷ id 26 55 ∷ sy symbol.OpenParen 56 ∷ sy
    symbol.CloseParen 57 ∷ sy symbol.OpenBrace 59 ∷ sy symbol.CloseBrace 61 ∷ sy symbol.Semicolon 62 ∷ sy
    symbol.CloseBrace 64 ∷ []) ≡ Some (
      (tree.block (from 0 1) (tree.more_statements (tree.expression_statement (from 2 3) (tree.assign
          None (from 4 5) (tree.name (named 0 2)) (tree.name (named 1 6)) (from 2 7)) (from 2 8)) (tree.more_statements
          (tree.expression_statement (from 9 11) (tree.prefix prefix_op.Increment (from 9 11) (tree.name (named 0 11)) (from 9 12)) (from
          9 13)) (tree.more_statements (tree.expression_statement (from 14 15) (tree.postfix postfix_op.Increment (from 15 17) (tree.name
          (named 0 14)) (from 14 17)) (from 14 18)) (tree.more_statements (tree.expression_statement (from 19 20) (tree.call (named 5 19)
          tree.no_expressions (from 19 22)) (from 19 23)) (tree.more_statements (tree.expression_statement (from 24 25) (tree.call_on
          (tree.name (named 0 24)) (named 5 26) tree.no_expressions (from 24 29)) (from 24 30)) (tree.more_statements
          (tree.expression_statement (from 31 36) (tree.super_call (from 31 36) (named 5 37) tree.no_expressions (from 31 40)) (from 31
          41)) (tree.more_statements (tree.expression_statement (from 42 45) (tree.new_object (from 42 45) (class_type (record {
            parts =
                (named 26 46) ∷ [];
            span = from 46 47;
          }) no_types 0 (from 46 47)) tree.no_expressions (from 42 49)) (from 42
          50)) (tree.more_statements (tree.expression_statement (from 51 54) (tree.new_anonymous (from 51 54) (class_type (record {
            parts
                = (named 26 55) ∷ [];
            span = from 55 56;
          }) no_types 0 (from 55 56)) tree.no_expressions tree.no_members (from 51
          62)) (from 51 63)) tree.no_statements)))))))) (from 64 65)),
      [],
    )
unfolding opened
steps_row = refl

-- { boolean a; byte b; short c; char d; int e; long f; }
primitives_row : (at names texts 12).block_statement (sy symbol.OpenBrace 0 ∷ wd word.Boolean 2 ∷ id 0 10 ∷ sy symbol.Semicolon 11 ∷ wd word.Byte 13 ∷
    id 1 18 ∷ sy symbol.Semicolon 19 ∷ wd word.Short 21 ∷ id 2 27 ∷ sy symbol.Semicolon 28 ∷ wd word.Char 30 ∷
    id 3 35 ∷ sy symbol.Semicolon 36 ∷ wd word.Int 38 ∷ id 4 42 ∷ sy symbol.Semicolon 43 ∷ wd word.Long 45 ∷ id 5 50 ∷
    sy symbol.Semicolon 51 ∷ sy symbol.CloseBrace 53 ∷ []) ≡ Some (
      (tree.block (from 0 1)
          (tree.more_statements (tree.local (from 2 9) false (primitive prim.Boolean 0 (from 2 9))
          (tree.more_variables (named 0 10) 0 tree.no_expression tree.no_variables) (from 2 12))
          (tree.more_statements (tree.local (from 13 17) false (primitive prim.Byte 0 (from 13 17))
          (tree.more_variables (named 1 18) 0 tree.no_expression tree.no_variables) (from 13 20))
          (tree.more_statements (tree.local (from 21 26) false (primitive prim.Short 0 (from 21 26))
          (tree.more_variables (named 2 27) 0 tree.no_expression tree.no_variables) (from 21 29))
          (tree.more_statements (tree.local (from 30 34) false (primitive prim.Char 0 (from 30 34))
          (tree.more_variables (named 3 35) 0 tree.no_expression tree.no_variables) (from 30 37))
          (tree.more_statements (tree.local (from 38 41) false (primitive prim.Int 0 (from 38 41))
          (tree.more_variables (named 4 42) 0 tree.no_expression tree.no_variables) (from 38 44))
          (tree.more_statements (tree.local (from 45 49) false (primitive prim.Long 0 (from 45 49))
          (tree.more_variables (named 5 50) 0 tree.no_expression tree.no_variables) (from 45 52)) tree.no_statements))))))
          (from 53 54)),
      [],
    )
unfolding opened
primitives_row = refl

-- G<A[]> x;
array_argument_row : (at names texts 12).block_statement (id 32 0 ∷
    sy symbol.Less 1 ∷ id 26 2 ∷ sy symbol.OpenBracket 3 ∷ sy symbol.CloseBracket 4 ∷ sy symbol.Greater 5 ∷ id 23 7 ∷
    sy symbol.Semicolon 8 ∷ []) ≡ Some (
      (tree.local (from 0 1) false
          (class_type (record { parts = (named 32 0) ∷ []; span = from 0 1 })
          (more_types (class_type (record { parts = (named 26 2) ∷ []; span = from 2 3 }) no_types 1 (from 2 5)) no_types) 0
          (from 0 6)) (tree.more_variables (named 23 7) 0 tree.no_expression tree.no_variables) (from 0 9)),
      [],
    )
unfolding opened
array_argument_row = refl

-- G<int[], A> x;
primitive_array_argument_row : (at names texts 12).block_statement (id 32 0 ∷
    sy symbol.Less 1 ∷ wd word.Int 2 ∷ sy symbol.OpenBracket 5 ∷ sy symbol.CloseBracket 6 ∷ sy symbol.Comma 7 ∷
    id 26 9 ∷ sy symbol.Greater 10 ∷ id 23 12 ∷ sy symbol.Semicolon 13 ∷ []) ≡ Some (
      (tree.local (from 0 1) false
          (class_type (record { parts = (named 32 0) ∷ []; span = from 0 1 })
          (more_types (primitive prim.Int 1 (from 2 7)) (more_types (class_type
          (record { parts = (named 26 9) ∷ []; span = from 9 10 }) no_types 0 (from 9 10)) no_types)) 0 (from 0 11))
          (tree.more_variables (named 23 12) 0 tree.no_expression tree.no_variables) (from 0 14)),
      [],
    )
unfolding opened
primitive_array_argument_row = refl

-- A.B<C>[] x;
qualified_generic_row : (at names texts 12).block_statement (id 26 0 ∷
    sy symbol.Dot 1 ∷ id 27 2 ∷ sy symbol.Less 3 ∷ id 28 4 ∷ sy symbol.Greater 5 ∷ sy symbol.OpenBracket 6 ∷
    sy symbol.CloseBracket 7 ∷ id 23 9 ∷ sy symbol.Semicolon 10 ∷ []) ≡ Some (
      (tree.local (from 0 1) false
          (class_type (record { parts = (named 26 0) ∷ (named 27 2) ∷ []; span = from 0 3 })
          (more_types (class_type (record { parts = (named 28 4) ∷ []; span = from 4 5 }) no_types 0 (from 4 5)) no_types) 1
          (from 0 8)) (tree.more_variables (named 23 9) 0 tree.no_expression tree.no_variables) (from 0 11)),
      [],
    )
unfolding opened
qualified_generic_row = refl

-- class A { }
plain_local_class_row : (at names texts 12).block_statement (wd word.Class 0 ∷ id 26 6 ∷
    sy symbol.OpenBrace 8 ∷ sy symbol.CloseBrace 10 ∷ []) ≡ Some (
      (tree.local_class
          (tree.class_declaration [] (named 26 6) [] None no_types tree.no_members (from 0 11))),
      [],
    )
unfolding opened
plain_local_class_row = refl

-- final class A { }
final_local_class_row : (at names texts 12).block_statement (wd word.Final 0 ∷ wd word.Class 6 ∷ id 26 12 ∷
    sy symbol.OpenBrace 14 ∷ sy symbol.CloseBrace 16 ∷ []) ≡ Some (
      (tree.local_class
          (tree.class_declaration ((record { kind = modifier.Final; span = from 0 5 }) ∷
          []) (named 26 12) [] None no_types tree.no_members (from 0 17))),
      [],
    )
unfolding opened
final_local_class_row = refl

-- abstract class A { int x; }
abstract_local_class_row : (at names texts 12).block_statement (wd word.Abstract 0 ∷ wd word.Class 9 ∷ id 26 15 ∷ sy symbol.OpenBrace 17 ∷ wd word.Int 19 ∷
    id 23 23 ∷ sy symbol.Semicolon 24 ∷ sy symbol.CloseBrace 26 ∷ []) ≡ Some (
      (tree.local_class
          (tree.class_declaration ((record { kind = modifier.Abstract; span = from 0 8 }) ∷
          []) (named 26 15) [] None no_types (tree.more_members (tree.field [] (primitive prim.Int 0 (from 19 22))
          (tree.more_variables (named 23 23) 0 tree.no_expression tree.no_variables) (from 19 25)) tree.no_members)
          (from 0 27))),
      [],
    )
unfolding opened
abstract_local_class_row = refl

-- for (i = 0, f(), j++; i < j; ) ;
several_steps_row : (at names texts 12).block_statement (wd word.For 0 ∷ sy symbol.OpenParen 4 ∷
    id 8 5 ∷ sy symbol.Assign 7 ∷ num kind.IntLiteral 0 9 10 ∷ sy symbol.Comma 10 ∷ id 5 12 ∷ sy symbol.OpenParen 13 ∷
    sy symbol.CloseParen 14 ∷ sy symbol.Comma 15 ∷ id 9 17 ∷ sy symbol.Increment 18 ∷ sy symbol.Semicolon 20 ∷
    id 8 22 ∷ sy symbol.Less 24 ∷ id 9 26 ∷ sy symbol.Semicolon 27 ∷ sy symbol.CloseParen 29 ∷ sy symbol.Semicolon 31 ∷
    []) ≡ Some (
      (tree.for (from 0 3)
          (tree.steps (tree.more_expressions (tree.assign None (from 7 8) (tree.name (named 8 5))
          (tree.literal (lit.Int (pos 0)) (from 9 10)) (from 5 10)) (tree.more_expressions
          (tree.call (named 5 12) tree.no_expressions (from 12 15)) (tree.more_expressions
          (tree.postfix postfix_op.Increment (from 18 20) (tree.name (named 9 17)) (from 17 20)) tree.no_expressions))))
          (tree.an_expression (tree.binary op.Less (from 24 25) (tree.name (named 8 22)) (tree.name (named 9 26))
          (from 22 27))) tree.no_expressions (tree.empty (from 31 32)) (from 0 32)),
      [],
    )
unfolding opened
several_steps_row = refl

-- for (A a : b) f(a);
plain_for_each_row : (at names texts 12).block_statement (wd word.For 0 ∷ sy symbol.OpenParen 4 ∷ id 26 5 ∷ id 0 7 ∷ sy symbol.Colon 9 ∷ id 1 11 ∷ sy symbol.CloseParen 12 ∷
    id 5 14 ∷ sy symbol.OpenParen 15 ∷ id 0 16 ∷ sy symbol.CloseParen 17 ∷ sy symbol.Semicolon 18 ∷ []) ≡ Some (
      (tree.for_each (from 0 3) false
          (class_type (record { parts = (named 26 5) ∷ []; span = from 5 6 }) no_types 0 (from 5 6)) (named 0 7)
          (tree.name (named 1 11)) (tree.expression_statement (from 14 15) (tree.call (named 5 14)
          (tree.more_expressions (tree.name (named 0 16)) tree.no_expressions) (from 14 18)) (from 14 19)) (from 0 19)),
      [],
    )
unfolding opened
plain_for_each_row = refl

-- for (int[] a : b.c) ;
for_each_of_arrays_row : (at names texts 12).block_statement (wd word.For 0 ∷ sy symbol.OpenParen 4 ∷ wd word.Int 5 ∷
    sy symbol.OpenBracket 8 ∷ sy symbol.CloseBracket 9 ∷ id 0 11 ∷ sy symbol.Colon 13 ∷ id 1 15 ∷ sy symbol.Dot 16 ∷
    id 2 17 ∷ sy symbol.CloseParen 18 ∷ sy symbol.Semicolon 20 ∷ []) ≡ Some (
      (tree.for_each (from 0 3) false
          (primitive prim.Int 1 (from 5 10)) (named 0 11) (tree.select (tree.name (named 1 15)) (named 2 17) (from 15 18))
          (tree.empty (from 20 21)) (from 0 21)),
      [],
    )
unfolding opened
for_each_of_arrays_row = refl

-- switch (a) { case 1: f(); case 2: default: }
default_last_row : (at names texts 12).block_statement (wd word.Switch 0 ∷ sy symbol.OpenParen 7 ∷ id 0 8 ∷ sy symbol.CloseParen 9 ∷ sy symbol.OpenBrace 11 ∷
    wd word.Case 13 ∷ num kind.IntLiteral 1 18 19 ∷ sy symbol.Colon 19 ∷ id 5 21 ∷ sy symbol.OpenParen 22 ∷
    sy symbol.CloseParen 23 ∷ sy symbol.Semicolon 24 ∷ wd word.Case 26 ∷ num kind.IntLiteral 2 31 32 ∷
    sy symbol.Colon 32 ∷ wd word.Default 34 ∷ sy symbol.Colon 41 ∷ sy symbol.CloseBrace 43 ∷ []) ≡ Some (
      (tree.switch (from 0 6) (tree.name (named 0 8))
          (tree.more_groups (tree.case_label (tree.literal (lit.Int (pos 1)) (from 18 19)) tree.no_labels)
          (tree.more_statements (tree.expression_statement (from 21 22) (tree.call (named 5 21) tree.no_expressions (from 21 24))
          (from 21 25)) tree.no_statements) (tree.more_groups (tree.case_label (tree.literal (lit.Int (pos 2)) (from 31 32))
          (tree.default_label (from 34 41) tree.no_labels)) tree.no_statements tree.no_groups)) (from 0 44)),
      [],
    )
unfolding opened
default_last_row = refl

-- switch (a) { default: f(); g(); case 1: }
default_group_row : (at names texts 12).block_statement (wd word.Switch 0 ∷ sy symbol.OpenParen 7 ∷ id 0 8 ∷ sy symbol.CloseParen 9 ∷ sy symbol.OpenBrace 11 ∷
    wd word.Default 13 ∷ sy symbol.Colon 20 ∷ id 5 22 ∷ sy symbol.OpenParen 23 ∷ sy symbol.CloseParen 24 ∷
    sy symbol.Semicolon 25 ∷ id 6 27 ∷ sy symbol.OpenParen 28 ∷ sy symbol.CloseParen 29 ∷ sy symbol.Semicolon 30 ∷
    wd word.Case 32 ∷ num kind.IntLiteral 1 37 38 ∷ sy symbol.Colon 38 ∷ sy symbol.CloseBrace 40 ∷ []) ≡ Some (
      (tree.switch (from 0 6) (tree.name (named 0 8))
          (tree.more_groups (tree.default_label (from 13 20) tree.no_labels)
          (tree.more_statements (tree.expression_statement (from 22 23) (tree.call (named 5 22) tree.no_expressions (from 22 25))
          (from 22 26)) (tree.more_statements (tree.expression_statement (from 27 28) (tree.call (named 6 27) tree.no_expressions
          (from 27 30)) (from 27 31)) tree.no_statements)) (tree.more_groups
          (tree.case_label (tree.literal (lit.Int (pos 1)) (from 37 38)) tree.no_labels) tree.no_statements tree.no_groups))
          (from 0 41)),
      [],
    )
unfolding opened
default_group_row = refl
