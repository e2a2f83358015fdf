-- Worked rows of members: the trees that spell these texts are the ones that are read.
use Rattle.std.specs.Prelude.{◌≡◌, refl, [], ◌∷◌, Some, None, true, false, pos}
use Rattle.je_ast.specs.Types.{class_type, more_types, no_types, primitive}
use Rattle.je_grammar.specs.Rows.Scale.{from, id, long_id, named, names, num, sy, texts, wd}
use Rattle.je_ast.specs.Trees as tree
use Rattle.je_ast.specs.declared.decl.ModifierKind.TheVariants as modifier
use Rattle.je_ast.specs.declared.expr.Literal.TheVariants as lit
use Rattle.je_ast.specs.declared.ty_name.Primitive.TheVariants as prim
use Rattle.je_token.specs.declared.keyword.Keyword.TheVariants as word
use Rattle.je_token.specs.declared.symbol.Symbol.TheVariants as symbol
use Rattle.je_token.specs.declared.token.TokenKind.TheVariants as kind
use Rattle.parse_laws.specs.way.Knot.{at}
use Rattle.parse_laws.specs.way.Opened.{opened}

-- private static final int a = 1, b[];
field_row : (at names texts 12).member (wd
    word.Private 0 ∷ wd word.Static 8 ∷ wd word.Final 15 ∷ wd word.Int 21 ∷ id 0 25 ∷ sy symbol.Assign 27 ∷ num
    kind.IntLiteral 1 29 30 ∷ sy symbol.Comma 30 ∷ id 1 32 ∷ sy symbol.OpenBracket 33 ∷ sy symbol.CloseBracket 34 ∷
    sy symbol.Semicolon 35 ∷ []) ≡ Some (
      (tree.field ((record { kind = modifier.Private; span = from 0 7 }) ∷ ((record {
        kind =
            modifier.Static;
        span = from 8 14;
      }) ∷ ((record { kind = modifier.Final; span = from 15 20 }) ∷ []))) (primitive
          prim.Int 0 (from 21 24)) (tree.more_variables (named 0 25) 0 (tree.an_expression (tree.literal (lit.Int (pos 1))
          (from 29 30))) (tree.more_variables (named 1 32) 1 tree.no_expression tree.no_variables)) (from 0 36)),
      [],
    )
unfolding opened
field_row = refl

-- @Override public A f(final int a[], G<A> b) throws A, B.C { return a; }
method_row : (at names texts 12).member (sy
    symbol.At 0 ∷ long_id 52 1 9 ∷ wd word.Public 10 ∷ id 26 17 ∷ id 5 19 ∷ sy symbol.OpenParen 20 ∷ wd word.Final
    21 ∷ wd word.Int 27 ∷ id 0 31 ∷ sy symbol.OpenBracket 32 ∷ sy symbol.CloseBracket 33 ∷ sy symbol.Comma 34 ∷ id
    32 36 ∷ sy symbol.Less 37 ∷ id 26 38 ∷ sy symbol.Greater 39 ∷ id 1 41 ∷ sy symbol.CloseParen 42 ∷ wd word.Throws
    44 ∷ id 26 51 ∷ sy symbol.Comma 52 ∷ id 27 54 ∷ sy symbol.Dot 55 ∷ id 28 56 ∷ sy symbol.OpenBrace 58 ∷ wd
    word.Return 60 ∷ id 0 67 ∷ sy symbol.Semicolon 68 ∷ sy symbol.CloseBrace 70 ∷ []) ≡ Some (
      (tree.method ((record { kind = modifier.Override; span = from 0 9 }) ∷ ((record {
        kind
            = modifier.Public;
        span = from 10 16;
      }) ∷ [])) (Some (class_type (record {
        parts = (named 26 17) ∷ [];
        span =
            from 17 18;
      }) no_types 0 (from 17 18))) (named 5 19) ((record {
        is_final = true;
        declared = (primitive prim.Int
            0 (from 27 30));
        name = (named 0 31);
        dims = 1;
      }) ∷ ((record {
        is_final = false;
        declared = (class_type (record
            { parts = (named 32 36) ∷ []; span = from 36 37 }) (more_types (class_type (record {
              parts = (named 26 38) ∷ [];
              span = from 38 39;
            }) no_types 0 (from 38 39)) no_types) 0 (from 36 40));
        name = (named 1 41);
        dims = 0;
      }) ∷ []))
          ((record { parts = (named 26 51) ∷ []; span = from 51 52 }) ∷ ((record {
            parts = (named 27 54) ∷ (named 28 56) ∷
                [];
            span = from 54 57;
          }) ∷ [])) (tree.a_block (from 58 59) (tree.more_statements (tree.return (from 60 66)
          (tree.an_expression (tree.name (named 0 67))) (from 60 69)) tree.no_statements) (from 70 71)) (from 0 71)),
      [],
    )
unfolding opened
method_row = refl

-- protected abstract void f();
abstract_method_row : (at names texts 12).member (wd word.Protected 0 ∷ wd word.Abstract 10 ∷ wd word.Void 19 ∷ id 5 24 ∷ sy symbol.OpenParen 25 ∷ sy
    symbol.CloseParen 26 ∷ sy symbol.Semicolon 27 ∷ []) ≡ Some (
      (tree.method ((record { kind = modifier.Protected; span = from 0 9 }) ∷
          ((record { kind = modifier.Abstract; span = from 10 18 }) ∷ [])) None (named 5 24) [] [] tree.no_block (from 0
          28)),
      [],
    )
unfolding opened
abstract_method_row = refl

-- native int[] f();
native_row : (at names texts 12).member (wd word.Native 0 ∷ wd
    word.Int 7 ∷ sy symbol.OpenBracket 10 ∷ sy symbol.CloseBracket 11 ∷ id 5 13 ∷ sy symbol.OpenParen 14 ∷ sy
    symbol.CloseParen 15 ∷ sy symbol.Semicolon 16 ∷ []) ≡ Some (
      (tree.method ((record { kind = modifier.Native; span = from 0 6 }) ∷ []) (Some
          (primitive prim.Int 1 (from 7 12))) (named 5 13) [] [] tree.no_block (from 0 17)),
      [],
    )
unfolding opened
native_row = refl

-- public A(int a) throws B { this(a, b); x = a; }
constructor_row : (at names texts 12).member (wd word.Public 0 ∷ id 26 7 ∷ sy symbol.OpenParen 8 ∷ wd word.Int 9 ∷ id 0 13 ∷ sy
    symbol.CloseParen 14 ∷ wd word.Throws 16 ∷ id 27 23 ∷ sy symbol.OpenBrace 25 ∷ wd word.This 27 ∷ sy
    symbol.OpenParen 31 ∷ id 0 32 ∷ sy symbol.Comma 33 ∷ id 1 35 ∷ sy symbol.CloseParen 36 ∷ sy symbol.Semicolon 37
    ∷ id 23 39 ∷ sy symbol.Assign 41 ∷ id 0 43 ∷ sy symbol.Semicolon 44 ∷ sy symbol.CloseBrace 46 ∷ []) ≡ Some (
      (tree.constructor ((record { kind = modifier.Public; span = from 0 6 }) ∷ [])
          (named 26 7) ((record {
            is_final = false;
            declared = (primitive prim.Int 0 (from 9 12));
            name = (named 0 13);
            dims = 0;
          }) ∷ []) ((record { parts = (named 27 23) ∷ []; span = from 23 24 }) ∷ []) (tree.explicit false (from
          27 31) (tree.more_expressions (tree.name (named 0 32)) (tree.more_expressions (tree.name (named 1 35))
          tree.no_expressions))) (from 25 26) (tree.more_statements (tree.expression_statement (from 39 40) (tree.assign None (from 41 42)
          (tree.name (named 23 39)) (tree.name (named 0 43)) (from 39 44)) (from 39 45)) tree.no_statements) (from 46 47)
          (from 0 47)),
      [],
    )
unfolding opened
constructor_row = refl

-- A() { super(); }
super_constructor_row : (at names texts 12).member (id 26 0 ∷ sy symbol.OpenParen 1 ∷
    sy symbol.CloseParen 2 ∷ sy symbol.OpenBrace 4 ∷ wd word.Super 6 ∷ sy symbol.OpenParen 11 ∷ sy symbol.CloseParen
    12 ∷ sy symbol.Semicolon 13 ∷ sy symbol.CloseBrace 15 ∷ []) ≡ Some (
      (tree.constructor [] (named 26 0) [] [] (tree.explicit true (from 6 11)
          tree.no_expressions) (from 4 5) tree.no_statements (from 15 16) (from 0 16)),
      [],
    )
unfolding opened
super_constructor_row = refl

-- A() { }
plain_constructor_row : (at names texts 12).member (id 26 0 ∷ sy symbol.OpenParen 1 ∷ sy symbol.CloseParen 2 ∷ sy
    symbol.OpenBrace 4 ∷ sy symbol.CloseBrace 6 ∷ []) ≡ Some (
      (tree.constructor [] (named 26 0) [] [] tree.implicit (from 4 5)
          tree.no_statements (from 6 7) (from 0 7)),
      [],
    )
unfolding opened
plain_constructor_row = refl

-- { x = 1; }
initializer_row : (at names texts 12).member (sy symbol.OpenBrace 0 ∷ id 23 2 ∷ sy symbol.Assign 4 ∷
    num kind.IntLiteral 1 6 7 ∷ sy symbol.Semicolon 7 ∷ sy symbol.CloseBrace 9 ∷ []) ≡ Some (
      (tree.initializer None (from 0 1) (tree.more_statements (tree.expression_statement (from 2 3)
          (tree.assign None (from 4 5) (tree.name (named 23 2)) (tree.literal (lit.Int (pos 1)) (from 6 7)) (from 2 7))
          (from 2 8)) tree.no_statements) (from 9 10) (from 0 10)),
      [],
    )
unfolding opened
initializer_row = refl

-- static { }
static_initializer_row : (at names texts 12).member (wd word.Static 0 ∷ sy symbol.OpenBrace 7 ∷ sy symbol.CloseBrace 9 ∷ []) ≡ Some (
  (tree.initializer (Some (from 0 6)) (from 7 8) tree.no_statements (from 9
      10) (from 0 10)),
  [],
)
unfolding opened
static_initializer_row = refl

-- static class A { }
member_class_row : (at names texts 12).member (wd word.Static 0 ∷ wd
    word.Class 7 ∷ id 26 13 ∷ sy symbol.OpenBrace 15 ∷ sy symbol.CloseBrace 17 ∷ []) ≡ Some (
      (tree.member_type (tree.class_declaration ((record {
        kind = modifier.Static;
        span = from 0 6;
      }) ∷ []) (named 26 13) [] None no_types tree.no_members (from 0 18))),
      [],
    )
unfolding opened
member_class_row = refl

-- @Override @Override interface I { ; int f(); ; }
member_interface_row : (at names texts 12).member (sy symbol.At 0 ∷ long_id 52 1 9 ∷ sy symbol.At 10
    ∷ long_id 52 11 19 ∷ wd word.Interface 20 ∷ id 34 30 ∷ sy symbol.OpenBrace 32 ∷ sy symbol.Semicolon 34 ∷ wd
    word.Int 36 ∷ id 5 40 ∷ sy symbol.OpenParen 41 ∷ sy symbol.CloseParen 42 ∷ sy symbol.Semicolon 43 ∷ sy
    symbol.Semicolon 45 ∷ sy symbol.CloseBrace 47 ∷ []) ≡ Some (
      (tree.member_type (tree.interface_declaration ((record {
        kind =
            modifier.Override;
        span = from 0 9;
      }) ∷ ((record { kind = modifier.Override; span = from 10 19 }) ∷ [])) (named
          34 30) [] no_types (tree.more_members (tree.method [] (Some (primitive prim.Int 0 (from 36 39))) (named 5 40) []
          [] tree.no_block (from 36 44)) tree.no_members) (from 0 48))),
      [],
    )
unfolding opened
member_interface_row = refl

-- void f() { g(); }
void_method_row : (at names texts 12).member (wd word.Void 0 ∷ id 5 5 ∷ sy symbol.OpenParen 6 ∷ sy symbol.CloseParen 7 ∷ sy symbol.OpenBrace 9 ∷
    id 6 11 ∷ sy symbol.OpenParen 12 ∷ sy symbol.CloseParen 13 ∷ sy symbol.Semicolon 14 ∷ sy symbol.CloseBrace 16 ∷
    []) ≡ Some (
      (tree.method [] None (named 5 5) [] []
          (tree.a_block (from 9 10) (tree.more_statements (tree.expression_statement (from 11 12)
          (tree.call (named 6 11) tree.no_expressions (from 11 14)) (from 11 15)) tree.no_statements) (from 16 17))
          (from 0 17)),
      [],
    )
unfolding opened
void_method_row = refl

-- protected final void f() { }
final_method_row : (at names texts 12).member (wd word.Protected 0 ∷ wd word.Final 10 ∷
    wd word.Void 16 ∷ id 5 21 ∷ sy symbol.OpenParen 22 ∷ sy symbol.CloseParen 23 ∷ sy symbol.OpenBrace 25 ∷
    sy symbol.CloseBrace 27 ∷ []) ≡ Some (
      (tree.method ((record { kind = modifier.Protected; span = from 0 9 }) ∷
          (record { kind = modifier.Final; span = from 10 15 }) ∷ []) None (named 5 21) [] []
          (tree.a_block (from 25 26) tree.no_statements (from 27 28)) (from 0 28)),
      [],
    )
unfolding opened
final_method_row = refl

-- public abstract void f();
void_without_body_row : (at names texts 12).member (wd word.Public 0 ∷ wd word.Abstract 7 ∷ wd word.Void 16 ∷ id 5 21 ∷ sy symbol.OpenParen 22 ∷
    sy symbol.CloseParen 23 ∷ sy symbol.Semicolon 24 ∷ []) ≡ Some (
      (tree.method ((record { kind = modifier.Public; span = from 0 6 }) ∷
          (record { kind = modifier.Abstract; span = from 7 15 }) ∷ []) None (named 5 21) [] [] tree.no_block (from 0 25)),
      [],
    )
unfolding opened
void_without_body_row = refl

-- static enum E { A }
member_enum_row : (at names texts 12).member (wd word.Static 0 ∷ wd word.Enum 7 ∷ id 30 12 ∷ sy symbol.OpenBrace 14 ∷ id 26 16 ∷ sy symbol.CloseBrace 18 ∷ []) ≡ Some (
  (tree.member_type (tree.enum_declaration
      ((record { kind = modifier.Static; span = from 0 6 }) ∷ []) (named 30 12) ((named 26 16) ∷ []) (from 0 19))),
  [],
)
unfolding opened
member_enum_row = refl
