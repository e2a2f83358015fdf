-- Worked rows: a name that means nothing, or no one thing. Above each stands its text, a line a unit.
use Rattle.std.proofs.Common.{◌≡◌, [], ◌∷◌, Some, None, refl}
use Rattle.std.specs.Prelude.{codes}
use Rattle.je_ast.specs.declared.decl.ModifierKind.TheVariants as modifier
use Rattle.je_ast.specs.Types.{class_type, no_types, type_names}
use Rattle.je_ast.specs.Trees.{Declaration, CompilationUnit}
use Rattle.je_ast.specs.Trees as tree
use Rattle.je_ast.specs.Parts.{expressions, statements, members}
use Rattle.je_scopes.specs.Source.{source}
use Rattle.std.specs.Fmt.{digits}
use Rattle.je_scopes.specs.Sites.{sites}
use Rattle.je_scopes.specs.Settled.{settled, depends}
use Rattle.je_scopes.specs.Faults.{faults, first_fault}
use Rattle.je_scopes.proofs.Rows.Trees.{at, id, qualified, modified, parameter, formal, unit, fault}

-- class A extends Zed {}
pub unknown_1 : first_fault (source (codes "A" ∷ codes "Zed" ∷ []) (unit [] ((tree.class_declaration [] (id 0 (at 0 6 7)) [] (Some (class_type (qualified ((id 1 (at 0 16 19)) ∷ []) (at 0 16 19)) no_types 0 (at 0 16 19))) (type_names []) (members []) (at 0 0 22)) ∷ []) ∷ [])) ≡ fault 2 (at 0 16 19)
unfolding first_fault faults sites settled depends digits
unknown_1 = refl

-- import host.Console; class A { Console c; }
-- class B { Console c; }
pub unknown_2 : first_fault (source (codes "host" ∷ codes "Console" ∷ codes "A" ∷ codes "c" ∷ codes "B" ∷ []) (unit ((qualified ((id 0 (at 0 7 11)) ∷ (id 1 (at 0 12 19)) ∷ []) (at 0 7 19)) ∷ []) ((tree.class_declaration [] (id 2 (at 0 27 28)) [] None (type_names []) (members ((tree.field [] (class_type (qualified ((id 1 (at 0 31 38)) ∷ []) (at 0 31 38)) no_types 0 (at 0 31 38)) (tree.more_variables (id 3 (at 0 39 40)) 0 tree.no_expression tree.no_variables) (at 0 31 41)) ∷ [])) (at 0 21 43)) ∷ []) ∷ unit [] ((tree.class_declaration [] (id 4 (at 1 6 7)) [] None (type_names []) (members ((tree.field [] (class_type (qualified ((id 1 (at 1 10 17)) ∷ []) (at 1 10 17)) no_types 0 (at 1 10 17)) (tree.more_variables (id 3 (at 1 18 19)) 0 tree.no_expression tree.no_variables) (at 1 10 20)) ∷ [])) (at 1 0 22)) ∷ []) ∷ [])) ≡ fault 2 (at 1 10 17)
unfolding first_fault faults sites settled depends digits
unknown_2 = refl

-- class A { Object f() { return new Zed() { }; } }
pub unknown_3 : first_fault (source (codes "A" ∷ codes "Object" ∷ codes "f" ∷ codes "Zed" ∷ []) (unit [] ((tree.class_declaration [] (id 0 (at 0 6 7)) [] None (type_names []) (members ((tree.method [] (Some (class_type (qualified ((id 1 (at 0 10 16)) ∷ []) (at 0 10 16)) no_types 0 (at 0 10 16))) (id 2 (at 0 17 18)) [] [] (tree.a_block (at 0 21 22) (statements ((tree.return (at 0 23 29) (tree.an_expression (tree.new_anonymous (at 0 30 33) (class_type (qualified ((id 3 (at 0 34 37)) ∷ []) (at 0 34 37)) no_types 0 (at 0 34 37)) (expressions []) (members []) (at 0 30 43))) (at 0 23 44)) ∷ [])) (at 0 45 46)) (at 0 10 46)) ∷ [])) (at 0 0 48)) ∷ []) ∷ [])) ≡ fault 2 (at 0 34 37)
unfolding first_fault faults sites settled depends digits
unknown_3 = refl

-- import A; class A {}
pub unknown_4 : first_fault (source (codes "A" ∷ []) (unit ((qualified ((id 0 (at 0 7 8)) ∷ []) (at 0 7 8)) ∷ []) ((tree.class_declaration [] (id 0 (at 0 16 17)) [] None (type_names []) (members []) (at 0 10 20)) ∷ []) ∷ [])) ≡ fault 2 (at 0 7 8)
unfolding first_fault faults sites settled depends digits
unknown_4 = refl

-- class A extends B.X { } class B extends A { }
pub unknown_5 : first_fault (source (codes "A" ∷ codes "B" ∷ codes "X" ∷ []) (unit [] ((tree.class_declaration [] (id 0 (at 0 6 7)) [] (Some (class_type (qualified ((id 1 (at 0 16 17)) ∷ (id 2 (at 0 18 19)) ∷ []) (at 0 16 19)) no_types 0 (at 0 16 19))) (type_names []) (members []) (at 0 0 23)) ∷ (tree.class_declaration [] (id 1 (at 0 30 31)) [] (Some (class_type (qualified ((id 0 (at 0 40 41)) ∷ []) (at 0 40 41)) no_types 0 (at 0 40 41))) (type_names []) (members []) (at 0 24 45)) ∷ []) ∷ [])) ≡ fault 2 (at 0 16 19)
unfolding first_fault faults sites settled depends digits
unknown_5 = refl

-- class A extends A.I.X { class I extends Foo {} } class Foo { static class X {} }
pub unknown_6 : first_fault (source (codes "A" ∷ codes "I" ∷ codes "X" ∷ codes "Foo" ∷ []) (unit [] ((tree.class_declaration [] (id 0 (at 0 6 7)) [] (Some (class_type (qualified ((id 0 (at 0 16 17)) ∷ (id 1 (at 0 18 19)) ∷ (id 2 (at 0 20 21)) ∷ []) (at 0 16 21)) no_types 0 (at 0 16 21))) (type_names []) (members ((tree.member_type (tree.class_declaration [] (id 1 (at 0 30 31)) [] (Some (class_type (qualified ((id 3 (at 0 40 43)) ∷ []) (at 0 40 43)) no_types 0 (at 0 40 43))) (type_names []) (members []) (at 0 24 46))) ∷ [])) (at 0 0 48)) ∷ (tree.class_declaration [] (id 3 (at 0 55 58)) [] None (type_names []) (members ((tree.member_type (tree.class_declaration ((modified modifier.Static (at 0 61 67)) ∷ []) (id 2 (at 0 74 75)) [] None (type_names []) (members []) (at 0 68 78))) ∷ [])) (at 0 49 80)) ∷ []) ∷ [])) ≡ fault 2 (at 0 16 21)
unfolding first_fault faults sites settled depends digits
unknown_6 = refl

-- class A<T> { static void f() { class L { T x; } } }
pub unknown_7 : first_fault (source (codes "A" ∷ codes "T" ∷ codes "f" ∷ codes "L" ∷ codes "x" ∷ []) (unit [] ((tree.class_declaration [] (id 0 (at 0 6 7)) ((parameter (id 1 (at 0 8 9)) None) ∷ []) None (type_names []) (members ((tree.method ((modified modifier.Static (at 0 13 19)) ∷ []) None (id 2 (at 0 25 26)) [] [] (tree.a_block (at 0 29 30) (statements ((tree.local_class (tree.class_declaration [] (id 3 (at 0 37 38)) [] None (type_names []) (members ((tree.field [] (class_type (qualified ((id 1 (at 0 41 42)) ∷ []) (at 0 41 42)) no_types 0 (at 0 41 42)) (tree.more_variables (id 4 (at 0 43 44)) 0 tree.no_expression tree.no_variables) (at 0 41 45)) ∷ [])) (at 0 31 47))) ∷ [])) (at 0 48 49)) (at 0 13 49)) ∷ [])) (at 0 0 51)) ∷ []) ∷ [])) ≡ fault 2 (at 0 41 42)
unfolding first_fault faults sites settled depends digits
unknown_7 = refl

-- class A { void f() { class L { } { class M extends L { } } } void g() { class M extends L { } } }
pub unknown_8 : first_fault (source (codes "A" ∷ codes "f" ∷ codes "L" ∷ codes "M" ∷ codes "g" ∷ []) (unit [] ((tree.class_declaration [] (id 0 (at 0 6 7)) [] None (type_names []) (members ((tree.method [] None (id 1 (at 0 15 16)) [] [] (tree.a_block (at 0 19 20) (statements ((tree.local_class (tree.class_declaration [] (id 2 (at 0 27 28)) [] None (type_names []) (members []) (at 0 21 32))) ∷ (tree.block (at 0 33 34) (statements ((tree.local_class (tree.class_declaration [] (id 3 (at 0 41 42)) [] (Some (class_type (qualified ((id 2 (at 0 51 52)) ∷ []) (at 0 51 52)) no_types 0 (at 0 51 52))) (type_names []) (members []) (at 0 35 56))) ∷ [])) (at 0 57 58)) ∷ [])) (at 0 59 60)) (at 0 10 60)) ∷ (tree.method [] None (id 4 (at 0 66 67)) [] [] (tree.a_block (at 0 70 71) (statements ((tree.local_class (tree.class_declaration [] (id 3 (at 0 78 79)) [] (Some (class_type (qualified ((id 2 (at 0 88 89)) ∷ []) (at 0 88 89)) no_types 0 (at 0 88 89))) (type_names []) (members []) (at 0 72 93))) ∷ [])) (at 0 94 95)) (at 0 61 95)) ∷ [])) (at 0 0 97)) ∷ []) ∷ [])) ≡ fault 2 (at 0 88 89)
unfolding first_fault faults sites settled depends digits
unknown_8 = refl

-- class A { void f() { class M extends L { } class L { } } }
pub unknown_9 : first_fault (source (codes "A" ∷ codes "f" ∷ codes "M" ∷ codes "L" ∷ []) (unit [] ((tree.class_declaration [] (id 0 (at 0 6 7)) [] None (type_names []) (members ((tree.method [] None (id 1 (at 0 15 16)) [] [] (tree.a_block (at 0 19 20) (statements ((tree.local_class (tree.class_declaration [] (id 2 (at 0 27 28)) [] (Some (class_type (qualified ((id 3 (at 0 37 38)) ∷ []) (at 0 37 38)) no_types 0 (at 0 37 38))) (type_names []) (members []) (at 0 21 42))) ∷ (tree.local_class (tree.class_declaration [] (id 3 (at 0 49 50)) [] None (type_names []) (members []) (at 0 43 54))) ∷ [])) (at 0 55 56)) (at 0 10 56)) ∷ [])) (at 0 0 58)) ∷ []) ∷ [])) ≡ fault 2 (at 0 37 38)
unfolding first_fault faults sites settled depends digits
unknown_9 = refl

-- class A<T> { T.X x; }
pub unknown_10 : first_fault (source (codes "A" ∷ codes "T" ∷ codes "X" ∷ codes "x" ∷ []) (unit [] ((tree.class_declaration [] (id 0 (at 0 6 7)) ((parameter (id 1 (at 0 8 9)) None) ∷ []) None (type_names []) (members ((tree.field [] (class_type (qualified ((id 1 (at 0 13 14)) ∷ (id 2 (at 0 15 16)) ∷ []) (at 0 13 16)) no_types 0 (at 0 13 16)) (tree.more_variables (id 3 (at 0 17 18)) 0 tree.no_expression tree.no_variables) (at 0 13 19)) ∷ [])) (at 0 0 21)) ∷ []) ∷ [])) ≡ fault 2 (at 0 13 16)
unfolding first_fault faults sites settled depends digits
unknown_10 = refl

-- class java { } class A { java.lang.String s; }
pub unknown_11 : first_fault (source (codes "java" ∷ codes "A" ∷ codes "lang" ∷ codes "String" ∷ codes "s" ∷ []) (unit [] ((tree.class_declaration [] (id 0 (at 0 6 10)) [] None (type_names []) (members []) (at 0 0 14)) ∷ (tree.class_declaration [] (id 1 (at 0 21 22)) [] None (type_names []) (members ((tree.field [] (class_type (qualified ((id 0 (at 0 25 29)) ∷ (id 2 (at 0 30 34)) ∷ (id 3 (at 0 35 41)) ∷ []) (at 0 25 41)) no_types 0 (at 0 25 41)) (tree.more_variables (id 4 (at 0 42 43)) 0 tree.no_expression tree.no_variables) (at 0 25 44)) ∷ [])) (at 0 15 46)) ∷ []) ∷ [])) ≡ fault 2 (at 0 25 41)
unfolding first_fault faults sites settled depends digits
unknown_11 = refl

-- enum E { A } class X { E.A y; }
pub unknown_12 : first_fault (source (codes "E" ∷ codes "A" ∷ codes "X" ∷ codes "y" ∷ []) (unit [] ((tree.enum_declaration [] (id 0 (at 0 5 6)) ((id 1 (at 0 9 10)) ∷ []) (at 0 0 12)) ∷ (tree.class_declaration [] (id 2 (at 0 19 20)) [] None (type_names []) (members ((tree.field [] (class_type (qualified ((id 0 (at 0 23 24)) ∷ (id 1 (at 0 25 26)) ∷ []) (at 0 23 26)) no_types 0 (at 0 23 26)) (tree.more_variables (id 3 (at 0 27 28)) 0 tree.no_expression tree.no_variables) (at 0 23 29)) ∷ [])) (at 0 13 31)) ∷ []) ∷ [])) ≡ fault 2 (at 0 23 26)
unfolding first_fault faults sites settled depends digits
unknown_12 = refl

-- interface I<T> { T x = null; }
pub unknown_13 : first_fault (source (codes "I" ∷ codes "T" ∷ codes "x" ∷ []) (unit [] ((tree.interface_declaration [] (id 0 (at 0 10 11)) ((parameter (id 1 (at 0 12 13)) None) ∷ []) (type_names []) (members ((tree.field [] (class_type (qualified ((id 1 (at 0 17 18)) ∷ []) (at 0 17 18)) no_types 0 (at 0 17 18)) (tree.more_variables (id 2 (at 0 19 20)) 0 (tree.an_expression (tree.this (at 0 23 27))) tree.no_variables) (at 0 17 28)) ∷ [])) (at 0 0 30)) ∷ []) ∷ [])) ≡ fault 2 (at 0 17 18)
unfolding first_fault faults sites settled depends digits
unknown_13 = refl

-- class T { } class G<T> { static T x; }
pub unknown_14 : first_fault (source (codes "T" ∷ codes "G" ∷ codes "x" ∷ []) (unit [] ((tree.class_declaration [] (id 0 (at 0 6 7)) [] None (type_names []) (members []) (at 0 0 11)) ∷ (tree.class_declaration [] (id 1 (at 0 18 19)) ((parameter (id 0 (at 0 20 21)) None) ∷ []) None (type_names []) (members ((tree.field ((modified modifier.Static (at 0 25 31)) ∷ []) (class_type (qualified ((id 0 (at 0 32 33)) ∷ []) (at 0 32 33)) no_types 0 (at 0 32 33)) (tree.more_variables (id 2 (at 0 34 35)) 0 tree.no_expression tree.no_variables) (at 0 25 36)) ∷ [])) (at 0 12 38)) ∷ []) ∷ [])) ≡ fault 2 (at 0 32 33)
unfolding first_fault faults sites settled depends digits
unknown_14 = refl

-- class B { static class T { } } class G<T> extends B { T f() { return null; } static void g(T x) { } }
pub unknown_15 : first_fault (source (codes "B" ∷ codes "T" ∷ codes "G" ∷ codes "f" ∷ codes "g" ∷ codes "x" ∷ []) (unit [] ((tree.class_declaration [] (id 0 (at 0 6 7)) [] None (type_names []) (members ((tree.member_type (tree.class_declaration ((modified modifier.Static (at 0 10 16)) ∷ []) (id 1 (at 0 23 24)) [] None (type_names []) (members []) (at 0 17 28))) ∷ [])) (at 0 0 30)) ∷ (tree.class_declaration [] (id 2 (at 0 37 38)) ((parameter (id 1 (at 0 39 40)) None) ∷ []) (Some (class_type (qualified ((id 0 (at 0 50 51)) ∷ []) (at 0 50 51)) no_types 0 (at 0 50 51))) (type_names []) (members ((tree.method [] (Some (class_type (qualified ((id 1 (at 0 54 55)) ∷ []) (at 0 54 55)) no_types 0 (at 0 54 55))) (id 3 (at 0 56 57)) [] [] (tree.a_block (at 0 60 61) (statements ((tree.return (at 0 62 68) (tree.an_expression (tree.this (at 0 69 73))) (at 0 62 74)) ∷ [])) (at 0 75 76)) (at 0 54 76)) ∷ (tree.method ((modified modifier.Static (at 0 77 83)) ∷ []) None (id 4 (at 0 89 90)) ((formal (class_type (qualified ((id 1 (at 0 91 92)) ∷ []) (at 0 91 92)) no_types 0 (at 0 91 92)) (id 5 (at 0 93 94)) 0) ∷ []) [] (tree.a_block (at 0 96 97) (statements []) (at 0 98 99)) (at 0 77 99)) ∷ [])) (at 0 31 101)) ∷ []) ∷ [])) ≡ fault 2 (at 0 91 92)
unfolding first_fault faults sites settled depends digits
unknown_15 = refl

-- class S { static class X { } } class M extends S { private static class X { } } class C extends M { X x; }
pub unknown_16 : first_fault (source (codes "S" ∷ codes "X" ∷ codes "M" ∷ codes "C" ∷ codes "x" ∷ []) (unit [] ((tree.class_declaration [] (id 0 (at 0 6 7)) [] None (type_names []) (members ((tree.member_type (tree.class_declaration ((modified modifier.Static (at 0 10 16)) ∷ []) (id 1 (at 0 23 24)) [] None (type_names []) (members []) (at 0 17 28))) ∷ [])) (at 0 0 30)) ∷ (tree.class_declaration [] (id 2 (at 0 37 38)) [] (Some (class_type (qualified ((id 0 (at 0 47 48)) ∷ []) (at 0 47 48)) no_types 0 (at 0 47 48))) (type_names []) (members ((tree.member_type (tree.class_declaration ((modified modifier.Private (at 0 51 58)) ∷ (modified modifier.Static (at 0 59 65)) ∷ []) (id 1 (at 0 72 73)) [] None (type_names []) (members []) (at 0 66 77))) ∷ [])) (at 0 31 79)) ∷ (tree.class_declaration [] (id 3 (at 0 86 87)) [] (Some (class_type (qualified ((id 2 (at 0 96 97)) ∷ []) (at 0 96 97)) no_types 0 (at 0 96 97))) (type_names []) (members ((tree.field [] (class_type (qualified ((id 1 (at 0 100 101)) ∷ []) (at 0 100 101)) no_types 0 (at 0 100 101)) (tree.more_variables (id 4 (at 0 102 103)) 0 tree.no_expression tree.no_variables) (at 0 100 104)) ∷ [])) (at 0 80 106)) ∷ []) ∷ [])) ≡ fault 2 (at 0 100 101)
unfolding first_fault faults sites settled depends digits
unknown_16 = refl

-- class Q extends A { Foo f; } class Foo { } class A extends B.X { } class B extends A { }
pub unknown_17 : first_fault (source (codes "Q" ∷ codes "A" ∷ codes "Foo" ∷ codes "f" ∷ codes "B" ∷ codes "X" ∷ []) (unit [] ((tree.class_declaration [] (id 0 (at 0 6 7)) [] (Some (class_type (qualified ((id 1 (at 0 16 17)) ∷ []) (at 0 16 17)) no_types 0 (at 0 16 17))) (type_names []) (members ((tree.field [] (class_type (qualified ((id 2 (at 0 20 23)) ∷ []) (at 0 20 23)) no_types 0 (at 0 20 23)) (tree.more_variables (id 3 (at 0 24 25)) 0 tree.no_expression tree.no_variables) (at 0 20 26)) ∷ [])) (at 0 0 28)) ∷ (tree.class_declaration [] (id 2 (at 0 35 38)) [] None (type_names []) (members []) (at 0 29 42)) ∷ (tree.class_declaration [] (id 1 (at 0 49 50)) [] (Some (class_type (qualified ((id 4 (at 0 59 60)) ∷ (id 5 (at 0 61 62)) ∷ []) (at 0 59 62)) no_types 0 (at 0 59 62))) (type_names []) (members []) (at 0 43 66)) ∷ (tree.class_declaration [] (id 4 (at 0 73 74)) [] (Some (class_type (qualified ((id 1 (at 0 83 84)) ∷ []) (at 0 83 84)) no_types 0 (at 0 83 84))) (type_names []) (members []) (at 0 67 88)) ∷ []) ∷ [])) ≡ fault 2 (at 0 20 23)
unfolding first_fault faults sites settled depends digits
unknown_17 = refl

-- class A { class B { void f() { class C extends D { } } } } class E { class D { } }
pub unknown_18 : first_fault (source (codes "A" ∷ codes "B" ∷ codes "f" ∷ codes "C" ∷ codes "D" ∷ codes "E" ∷ []) (unit [] ((tree.class_declaration [] (id 0 (at 0 6 7)) [] None (type_names []) (members ((tree.member_type (tree.class_declaration [] (id 1 (at 0 16 17)) [] None (type_names []) (members ((tree.method [] None (id 2 (at 0 25 26)) [] [] (tree.a_block (at 0 29 30) (statements ((tree.local_class (tree.class_declaration [] (id 3 (at 0 37 38)) [] (Some (class_type (qualified ((id 4 (at 0 47 48)) ∷ []) (at 0 47 48)) no_types 0 (at 0 47 48))) (type_names []) (members []) (at 0 31 52))) ∷ [])) (at 0 53 54)) (at 0 20 54)) ∷ [])) (at 0 10 56))) ∷ [])) (at 0 0 58)) ∷ (tree.class_declaration [] (id 5 (at 0 65 66)) [] None (type_names []) (members ((tree.member_type (tree.class_declaration [] (id 4 (at 0 75 76)) [] None (type_names []) (members []) (at 0 69 80))) ∷ [])) (at 0 59 82)) ∷ []) ∷ [])) ≡ fault 2 (at 0 47 48)
unfolding first_fault faults sites settled depends digits
unknown_18 = refl

-- class E { class D { } } class A extends E { class B { void f() { class C extends D { D d; } new D() { D e; C.D q(D x) { return x; } }; } } }
pub unknown_19 : first_fault (source (codes "E" ∷ codes "D" ∷ codes "A" ∷ codes "B" ∷ codes "f" ∷ codes "C" ∷ codes "d" ∷ codes "e" ∷ codes "q" ∷ codes "x" ∷ []) (unit [] ((tree.class_declaration [] (id 0 (at 0 6 7)) [] None (type_names []) (members ((tree.member_type (tree.class_declaration [] (id 1 (at 0 16 17)) [] None (type_names []) (members []) (at 0 10 21))) ∷ [])) (at 0 0 23)) ∷ (tree.class_declaration [] (id 2 (at 0 30 31)) [] (Some (class_type (qualified ((id 0 (at 0 40 41)) ∷ []) (at 0 40 41)) no_types 0 (at 0 40 41))) (type_names []) (members ((tree.member_type (tree.class_declaration [] (id 3 (at 0 50 51)) [] None (type_names []) (members ((tree.method [] None (id 4 (at 0 59 60)) [] [] (tree.a_block (at 0 63 64) (statements ((tree.local_class (tree.class_declaration [] (id 5 (at 0 71 72)) [] (Some (class_type (qualified ((id 1 (at 0 81 82)) ∷ []) (at 0 81 82)) no_types 0 (at 0 81 82))) (type_names []) (members ((tree.field [] (class_type (qualified ((id 1 (at 0 85 86)) ∷ []) (at 0 85 86)) no_types 0 (at 0 85 86)) (tree.more_variables (id 6 (at 0 87 88)) 0 tree.no_expression tree.no_variables) (at 0 85 89)) ∷ [])) (at 0 65 91))) ∷ (tree.expression_statement (at 0 92 92) (tree.new_anonymous (at 0 92 95) (class_type (qualified ((id 1 (at 0 96 97)) ∷ []) (at 0 96 97)) no_types 0 (at 0 96 97)) (expressions []) (members ((tree.field [] (class_type (qualified ((id 1 (at 0 102 103)) ∷ []) (at 0 102 103)) no_types 0 (at 0 102 103)) (tree.more_variables (id 7 (at 0 104 105)) 0 tree.no_expression tree.no_variables) (at 0 102 106)) ∷ (tree.method [] (Some (class_type (qualified ((id 5 (at 0 107 108)) ∷ (id 1 (at 0 109 110)) ∷ []) (at 0 107 110)) no_types 0 (at 0 107 110))) (id 8 (at 0 111 112)) ((formal (class_type (qualified ((id 1 (at 0 113 114)) ∷ []) (at 0 113 114)) no_types 0 (at 0 113 114)) (id 9 (at 0 115 116)) 0) ∷ []) [] (tree.a_block (at 0 118 119) (statements ((tree.return (at 0 120 126) (tree.an_expression (tree.name (id 9 (at 0 127 128)))) (at 0 120 129)) ∷ [])) (at 0 130 131)) (at 0 107 131)) ∷ [])) (at 0 92 133)) (at 0 92 134)) ∷ [])) (at 0 135 136)) (at 0 54 136)) ∷ [])) (at 0 44 138))) ∷ [])) (at 0 24 140)) ∷ []) ∷ [])) ≡ fault 2 (at 0 107 110)
unfolding first_fault faults sites settled depends digits
unknown_19 = refl

-- class A { void f() { switch (1) { case 1: class L { } case 2: class M extends L { } } } }
pub unknown_20 : first_fault (source (codes "A" ∷ codes "f" ∷ codes "L" ∷ codes "M" ∷ []) (unit [] ((tree.class_declaration [] (id 0 (at 0 6 7)) [] None (type_names []) (members ((tree.method [] None (id 1 (at 0 15 16)) [] [] (tree.a_block (at 0 19 20) (statements ((tree.switch (at 0 21 27) (tree.this (at 0 29 30)) (tree.more_groups (tree.case_label (tree.this (at 0 39 40)) tree.no_labels) (statements ((tree.local_class (tree.class_declaration [] (id 2 (at 0 48 49)) [] None (type_names []) (members []) (at 0 42 53))) ∷ [])) (tree.more_groups (tree.case_label (tree.this (at 0 59 60)) tree.no_labels) (statements ((tree.local_class (tree.class_declaration [] (id 3 (at 0 68 69)) [] (Some (class_type (qualified ((id 2 (at 0 78 79)) ∷ []) (at 0 78 79)) no_types 0 (at 0 78 79))) (type_names []) (members []) (at 0 62 83))) ∷ [])) tree.no_groups)) (at 0 21 85)) ∷ [])) (at 0 86 87)) (at 0 10 87)) ∷ [])) (at 0 0 89)) ∷ []) ∷ [])) ≡ fault 2 (at 0 78 79)
unfolding first_fault faults sites settled depends digits
unknown_20 = refl

-- class G<T> { static { class L { T x; } } }
pub unknown_21 : first_fault (source (codes "G" ∷ codes "T" ∷ codes "L" ∷ codes "x" ∷ []) (unit [] ((tree.class_declaration [] (id 0 (at 0 6 7)) ((parameter (id 1 (at 0 8 9)) None) ∷ []) None (type_names []) (members ((tree.initializer (Some (at 0 13 19)) (at 0 20 21) (statements ((tree.local_class (tree.class_declaration [] (id 2 (at 0 28 29)) [] None (type_names []) (members ((tree.field [] (class_type (qualified ((id 1 (at 0 32 33)) ∷ []) (at 0 32 33)) no_types 0 (at 0 32 33)) (tree.more_variables (id 3 (at 0 34 35)) 0 tree.no_expression tree.no_variables) (at 0 32 36)) ∷ [])) (at 0 22 38))) ∷ [])) (at 0 39 40) (at 0 13 40)) ∷ [])) (at 0 0 42)) ∷ []) ∷ [])) ≡ fault 2 (at 0 32 33)
unfolding first_fault faults sites settled depends digits
unknown_21 = refl
