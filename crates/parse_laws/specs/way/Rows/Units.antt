-- Worked rows of files: the units that spell these texts are the ones that are read.
use Rattle.std.specs.Prelude.{◌≡◌, refl, [], ◌∷◌, Some, None, pos}
use Rattle.je_ast.specs.Types.{class_type, more_types, no_types, primitive}
use Rattle.je_grammar.specs.Rows.Scale.{end, from, id, named, names, num, sy, texts, wd}
use Rattle.je_ast.specs.Trees as tree
use Rattle.je_ast.specs.declared.decl.ModifierKind.TheVariants as modifier
use Rattle.je_ast.specs.declared.expr.Literal.TheVariants as lit
use Rattle.je_ast.specs.declared.ty_name.Primitive.TheVariants as prim
use Rattle.je_token.specs.declared.keyword.Keyword.TheVariants as word
use Rattle.je_token.specs.declared.symbol.Symbol.TheVariants as symbol
use Rattle.je_token.specs.declared.token.TokenKind.TheVariants as kind
use Rattle.parse_laws.specs.way.Knot.{unit_at}
use Rattle.parse_laws.specs.way.Opened.{opened}

-- import a.b.A; import B; ; public final class A extends B implements C, D.E { ; int x; ; } interface I extends J, K { } ;
unit_row : unit_at names texts 12 (wd word.Import 0 ∷ id 0 7 ∷ sy symbol.Dot 8 ∷ id 1 9 ∷ sy symbol.Dot
    10 ∷ id 26 11 ∷ sy symbol.Semicolon 12 ∷ wd word.Import 14 ∷ id 27 21 ∷ sy symbol.Semicolon 22 ∷ sy
    symbol.Semicolon 24 ∷ wd word.Public 26 ∷ wd word.Final 33 ∷ wd word.Class 39 ∷ id 26 45 ∷ wd word.Extends 47 ∷
    id 27 55 ∷ wd word.Implements 57 ∷ id 28 68 ∷ sy symbol.Comma 69 ∷ id 29 71 ∷ sy symbol.Dot 72 ∷ id 30 73 ∷ sy
    symbol.OpenBrace 75 ∷ sy symbol.Semicolon 77 ∷ wd word.Int 79 ∷ id 23 83 ∷ sy symbol.Semicolon 84 ∷ sy
    symbol.Semicolon 86 ∷ sy symbol.CloseBrace 88 ∷ wd word.Interface 90 ∷ id 34 100 ∷ wd word.Extends 102 ∷ id 35
    110 ∷ sy symbol.Comma 111 ∷ id 36 113 ∷ sy symbol.OpenBrace 115 ∷ sy symbol.CloseBrace 117 ∷ sy symbol.Semicolon
    119 ∷ end 120 ∷ []) ≡ Some (record {
      imports = ((record {
        parts = (named 0 7) ∷ (named 1 9) ∷ (named 26 11) ∷ [];
        span = from 7 12;
      }) ∷ ((record { parts = (named 27 21) ∷ []; span = from 21 22 }) ∷ []));
      declarations =
          ((tree.class_declaration ((record { kind = modifier.Public; span = from 26 32 }) ∷ ((record {
            kind =
                modifier.Final;
            span = from 33 38;
          }) ∷ [])) (named 26 45) [] (Some (class_type (record {
            parts = (named 27 55) ∷
                [];
            span = from 55 56;
          }) no_types 0 (from 55 56))) (more_types (class_type (record {
            parts = (named 28 68) ∷ [];
            span = from 68 69;
          }) no_types 0 (from 68 69)) (more_types (class_type (record {
            parts = (named 29 71) ∷ (named
                30 73) ∷ [];
            span = from 71 74;
          }) no_types 0 (from 71 74)) no_types)) (tree.more_members (tree.field []
          (primitive prim.Int 0 (from 79 82)) (tree.more_variables (named 23 83) 0 tree.no_expression tree.no_variables)
          (from 79 85)) tree.no_members) (from 26 89)) ∷ ((tree.interface_declaration [] (named 34 100) [] (more_types
          (class_type (record { parts = (named 35 110) ∷ []; span = from 110 111 }) no_types 0 (from 110 111)) (more_types
          (class_type (record { parts = (named 36 113) ∷ []; span = from 113 114 }) no_types 0 (from 113 114)) no_types))
          tree.no_members (from 90 118)) ∷ []));
    })
unfolding opened
unit_row = refl

-- class A<T extends G<H<B>>> extends G<T> implements I<A> { } abstract interface I<T, U> extends J<T> { }
generics_row : unit_at names texts 12 (wd
    word.Class 0 ∷ id 26 6 ∷ sy symbol.Less 7 ∷ id 45 8 ∷ wd word.Extends 10 ∷ id 32 18 ∷ sy symbol.Less 19 ∷ id 33
    20 ∷ sy symbol.Less 21 ∷ id 27 22 ∷ sy symbol.UnsignedShiftRight 23 ∷ wd word.Extends 27 ∷ id 32 35 ∷ sy
    symbol.Less 36 ∷ id 45 37 ∷ sy symbol.Greater 38 ∷ wd word.Implements 40 ∷ id 34 51 ∷ sy symbol.Less 52 ∷ id 26
    53 ∷ sy symbol.Greater 54 ∷ sy symbol.OpenBrace 56 ∷ sy symbol.CloseBrace 58 ∷ wd word.Abstract 60 ∷ wd
    word.Interface 69 ∷ id 34 79 ∷ sy symbol.Less 80 ∷ id 45 81 ∷ sy symbol.Comma 82 ∷ id 46 84 ∷ sy symbol.Greater
    85 ∷ wd word.Extends 87 ∷ id 35 95 ∷ sy symbol.Less 96 ∷ id 45 97 ∷ sy symbol.Greater 98 ∷ sy symbol.OpenBrace
    100 ∷ sy symbol.CloseBrace 102 ∷ end 103 ∷ []) ≡ Some (record {
      imports = [];
      declarations = ((tree.class_declaration [] (named 26 6)
          ((record {
            name = (named 45 8);
            bound = Some (class_type (record {
              parts = (named 32 18) ∷ [];
              span = from 18 19;
            }) (more_types (class_type (record { parts = (named 33 20) ∷ []; span = from 20 21 }) (more_types (class_type
                (record { parts = (named 27 22) ∷ []; span = from 22 23 }) no_types 0 (from 22 23)) no_types) 0 (from 20 24))
                no_types) 0 (from 18 25));
          }) ∷ []) (Some (class_type (record { parts = (named 32 35) ∷ []; span = from 35 36 })
          (more_types (class_type (record { parts = (named 45 37) ∷ []; span = from 37 38 }) no_types 0 (from 37 38))
          no_types) 0 (from 35 39))) (more_types (class_type (record { parts = (named 34 51) ∷ []; span = from 51 52 })
          (more_types (class_type (record { parts = (named 26 53) ∷ []; span = from 53 54 }) no_types 0 (from 53 54))
          no_types) 0 (from 51 55)) no_types) tree.no_members (from 0 59)) ∷ ((tree.interface_declaration ((record {
            kind
                = modifier.Abstract;
            span = from 60 68;
          }) ∷ []) (named 34 79) ((record { name = (named 45 81); bound = None }) ∷
          ((record { name = (named 46 84); bound = None }) ∷ [])) (more_types (class_type (record {
            parts = (named 35 95)
                ∷ [];
            span = from 95 96;
          }) (more_types (class_type (record { parts = (named 45 97) ∷ []; span = from 97 98 })
          no_types 0 (from 97 98)) no_types) 0 (from 95 99)) no_types) tree.no_members (from 60 103)) ∷ []));
    })
unfolding opened
generics_row = refl

-- import a.A; import B;
imports_row : unit_at names texts 12 (wd word.Import 0 ∷ id 0 7 ∷ sy symbol.Dot 8 ∷ id 26 9 ∷ sy symbol.Semicolon 10 ∷ wd word.Import 12 ∷ id 27 19 ∷
    sy symbol.Semicolon 20 ∷ end 21 ∷ []) ≡ Some (record {
      imports = ((record { parts = (named 0 7) ∷ (named 26 9) ∷ []; span = from 7 10 }) ∷
          (record { parts = (named 27 19) ∷ []; span = from 19 20 }) ∷ []);
      declarations = [];
    })
unfolding opened
imports_row = refl

-- ; ;
semicolons_row : unit_at names texts 12 (sy symbol.Semicolon 0 ∷ sy symbol.Semicolon 2 ∷ end 3 ∷ []) ≡ Some (record {
  imports = [];
  declarations = [];
})
unfolding opened
semicolons_row = refl

-- class A { int x = ((1)); } abstract class B { void f() { } }
classes_row : unit_at names texts 12 (wd word.Class 0 ∷ id 26 6 ∷ sy symbol.OpenBrace 8 ∷ wd word.Int 10 ∷ id 23 14 ∷ sy symbol.Assign 16 ∷
    sy symbol.OpenParen 18 ∷ sy symbol.OpenParen 19 ∷ num kind.IntLiteral 1 20 21 ∷ sy symbol.CloseParen 21 ∷
    sy symbol.CloseParen 22 ∷ sy symbol.Semicolon 23 ∷ sy symbol.CloseBrace 25 ∷ wd word.Abstract 27 ∷
    wd word.Class 36 ∷ id 27 42 ∷ sy symbol.OpenBrace 44 ∷ wd word.Void 46 ∷ id 5 51 ∷ sy symbol.OpenParen 52 ∷
    sy symbol.CloseParen 53 ∷ sy symbol.OpenBrace 55 ∷ sy symbol.CloseBrace 57 ∷ sy symbol.CloseBrace 59 ∷ end 60 ∷ []) ≡ Some (record {
      imports = [];
      declarations = ((tree.class_declaration [] (named 26 6) [] None no_types
          (tree.more_members (tree.field [] (primitive prim.Int 0 (from 10 13))
          (tree.more_variables (named 23 14) 0 (tree.an_expression (tree.parens
          (tree.parens (tree.literal (lit.Int (pos 1)) (from 20 21)) (from 19 22)) (from 18 23))) tree.no_variables)
          (from 10 24)) tree.no_members) (from 0 26)) ∷ (tree.class_declaration
          ((record { kind = modifier.Abstract; span = from 27 35 }) ∷ []) (named 27 42) [] None no_types
          (tree.more_members (tree.method [] None (named 5 51) [] [] (tree.a_block (from 55 56) tree.no_statements
          (from 57 58)) (from 46 58)) tree.no_members) (from 27 60)) ∷ []);
    })
unfolding opened
classes_row = refl

-- JLS 8.9: enum E { } public enum F { A, B, ; } enum G { , } enum H { A; }
enums_row : unit_at names texts 12 (wd word.Enum 0 ∷ id 30 5 ∷ sy symbol.OpenBrace 7 ∷ sy symbol.CloseBrace 9 ∷ wd word.Public 11 ∷ wd word.Enum 18 ∷ id 31 23 ∷
    sy symbol.OpenBrace 25 ∷ id 26 27 ∷ sy symbol.Comma 28 ∷ id 27 30 ∷ sy symbol.Comma 31 ∷ sy symbol.Semicolon 33 ∷ sy symbol.CloseBrace 35 ∷
    wd word.Enum 37 ∷ id 32 42 ∷ sy symbol.OpenBrace 44 ∷ sy symbol.Comma 46 ∷ sy symbol.CloseBrace 48 ∷ wd word.Enum 50 ∷ id 33 55 ∷
    sy symbol.OpenBrace 57 ∷ id 26 59 ∷ sy symbol.Semicolon 60 ∷ sy symbol.CloseBrace 62 ∷ end 63 ∷ []) ≡ Some (record {
      imports = [];
      declarations = ((tree.enum_declaration [] (named 30 5) [] (from 0 10)) ∷
          (tree.enum_declaration ((record { kind = modifier.Public; span = from 11 17 }) ∷ []) (named 31 23)
          ((named 26 27) ∷ (named 27 30) ∷ []) (from 11 36)) ∷
          (tree.enum_declaration [] (named 32 42) [] (from 37 49)) ∷
          (tree.enum_declaration [] (named 33 55) ((named 26 59) ∷ []) (from 50 63)) ∷ []);
    })
unfolding opened
enums_row = refl
