-- Worked rows: programs without fault. Above each stands its text, a line a unit.
use Rattle.std.proofs.Common.{◌≡◌, [], ◌∷◌, Some, None, refl}
use Rattle.std.specs.Prelude.{false, codes}
use Rattle.je_ast.specs.declared.decl.ModifierKind.TheVariants as modifier
use Rattle.je_ast.specs.declared.ty_name.Primitive.TheVariants as word
use Rattle.je_ast.specs.Types.{primitive, class_type, no_types, type_names}
use Rattle.je_ast.specs.Trees.{Declaration, CompilationUnit}
use Rattle.je_ast.specs.Trees as tree
use Rattle.je_ast.specs.Parts.{expressions, statements, members}
use Rattle.je_scopes.specs.Source.{source}
use Rattle.std.specs.Fmt.{digits}
use Rattle.je_scopes.specs.Sites.{sites}
use Rattle.je_scopes.specs.Settled.{settled, depends}
use Rattle.je_scopes.specs.Faults.{faults, first_fault}
use Rattle.je_scopes.proofs.Rows.Trees.{at, id, qualified, modified, parameter, formal, unit}

-- class A { B b; }
-- class B extends A { }
pub free_1 : first_fault (source (codes "A" ∷ codes "B" ∷ codes "b" ∷ []) (unit [] ((tree.class_declaration [] (id 0 (at 0 6 7)) [] None (type_names []) (members ((tree.field [] (class_type (qualified ((id 1 (at 0 10 11)) ∷ []) (at 0 10 11)) no_types 0 (at 0 10 11)) (tree.more_variables (id 2 (at 0 12 13)) 0 tree.no_expression tree.no_variables) (at 0 10 14)) ∷ [])) (at 0 0 16)) ∷ []) ∷ unit [] ((tree.class_declaration [] (id 1 (at 1 6 7)) [] (Some (class_type (qualified ((id 0 (at 1 16 17)) ∷ []) (at 1 16 17)) no_types 0 (at 1 16 17))) (type_names []) (members []) (at 1 0 21)) ∷ []) ∷ [])) ≡ None
unfolding first_fault faults sites settled depends digits
free_1 = refl

-- class A { A() { } B() { } }
pub free_2 : first_fault (source (codes "A" ∷ codes "B" ∷ []) (unit [] ((tree.class_declaration [] (id 0 (at 0 6 7)) [] None (type_names []) (members ((tree.constructor [] (id 0 (at 0 10 11)) [] [] tree.implicit (at 0 14 15) (statements []) (at 0 16 17) (at 0 10 17)) ∷ (tree.constructor [] (id 1 (at 0 18 19)) [] [] tree.implicit (at 0 22 23) (statements []) (at 0 24 25) (at 0 18 25)) ∷ [])) (at 0 0 27)) ∷ []) ∷ [])) ≡ None
unfolding first_fault faults sites settled depends digits
free_2 = refl

-- class A { void f() { class L {} } void g() { class L {} } }
pub free_3 : first_fault (source (codes "A" ∷ codes "f" ∷ codes "L" ∷ codes "g" ∷ []) (unit [] ((tree.class_declaration [] (id 0 (at 0 6 7)) [] None (type_names []) (members ((tree.method [] None (id 1 (at 0 15 16)) [] [] (tree.a_block (at 0 19 20) (statements ((tree.local_class (tree.class_declaration [] (id 2 (at 0 27 28)) [] None (type_names []) (members []) (at 0 21 31))) ∷ [])) (at 0 32 33)) (at 0 10 33)) ∷ (tree.method [] None (id 3 (at 0 39 40)) [] [] (tree.a_block (at 0 43 44) (statements ((tree.local_class (tree.class_declaration [] (id 2 (at 0 51 52)) [] None (type_names []) (members []) (at 0 45 55))) ∷ [])) (at 0 56 57)) (at 0 34 57)) ∷ [])) (at 0 0 59)) ∷ []) ∷ [])) ≡ None
unfolding first_fault faults sites settled depends digits
free_3 = refl

-- class A<T> { void f() { class L { T x; } } }
pub free_4 : first_fault (source (codes "A" ∷ codes "T" ∷ codes "f" ∷ codes "L" ∷ codes "x" ∷ []) (unit [] ((tree.class_declaration [] (id 0 (at 0 6 7)) ((parameter (id 1 (at 0 8 9)) None) ∷ []) None (type_names []) (members ((tree.method [] None (id 2 (at 0 18 19)) [] [] (tree.a_block (at 0 22 23) (statements ((tree.local_class (tree.class_declaration [] (id 3 (at 0 30 31)) [] None (type_names []) (members ((tree.field [] (class_type (qualified ((id 1 (at 0 34 35)) ∷ []) (at 0 34 35)) no_types 0 (at 0 34 35)) (tree.more_variables (id 4 (at 0 36 37)) 0 tree.no_expression tree.no_variables) (at 0 34 38)) ∷ [])) (at 0 24 40))) ∷ [])) (at 0 41 42)) (at 0 13 42)) ∷ [])) (at 0 0 44)) ∷ []) ∷ [])) ≡ None
unfolding first_fault faults sites settled depends digits
free_4 = refl

-- class L { } class A { void f() { class M extends L { int f(M m) { return 1; } } class L { } } }
pub free_5 : first_fault (source (codes "L" ∷ codes "A" ∷ codes "f" ∷ codes "M" ∷ codes "m" ∷ []) (unit [] ((tree.class_declaration [] (id 0 (at 0 6 7)) [] None (type_names []) (members []) (at 0 0 11)) ∷ (tree.class_declaration [] (id 1 (at 0 18 19)) [] None (type_names []) (members ((tree.method [] None (id 2 (at 0 27 28)) [] [] (tree.a_block (at 0 31 32) (statements ((tree.local_class (tree.class_declaration [] (id 3 (at 0 39 40)) [] (Some (class_type (qualified ((id 0 (at 0 49 50)) ∷ []) (at 0 49 50)) no_types 0 (at 0 49 50))) (type_names []) (members ((tree.method [] (Some (primitive word.Int 0 (at 0 53 56))) (id 2 (at 0 57 58)) ((formal (class_type (qualified ((id 3 (at 0 59 60)) ∷ []) (at 0 59 60)) no_types 0 (at 0 59 60)) (id 4 (at 0 61 62)) 0) ∷ []) [] (tree.a_block (at 0 64 65) (statements ((tree.return (at 0 66 72) (tree.an_expression (tree.this (at 0 73 74))) (at 0 66 75)) ∷ [])) (at 0 76 77)) (at 0 53 77)) ∷ [])) (at 0 33 79))) ∷ (tree.local_class (tree.class_declaration [] (id 0 (at 0 86 87)) [] None (type_names []) (members []) (at 0 80 91))) ∷ [])) (at 0 92 93)) (at 0 22 93)) ∷ [])) (at 0 12 95)) ∷ []) ∷ [])) ≡ None
unfolding first_fault faults sites settled depends digits
free_5 = refl

-- class A { java.lang.String s; host.Console c; joee.lib.ConstRow<org.joe_e.Token> r; }
pub free_6 : first_fault (source (codes "A" ∷ codes "java" ∷ codes "lang" ∷ codes "String" ∷ codes "s" ∷ codes "host" ∷ codes "Console" ∷ codes "c" ∷ codes "joee" ∷ codes "lib" ∷ codes "ConstRow" ∷ codes "org" ∷ codes "joe_e" ∷ codes "Token" ∷ codes "r" ∷ []) (unit [] ((tree.class_declaration [] (id 0 (at 0 6 7)) [] None (type_names []) (members ((tree.field [] (class_type (qualified ((id 1 (at 0 10 14)) ∷ (id 2 (at 0 15 19)) ∷ (id 3 (at 0 20 26)) ∷ []) (at 0 10 26)) no_types 0 (at 0 10 26)) (tree.more_variables (id 4 (at 0 27 28)) 0 tree.no_expression tree.no_variables) (at 0 10 29)) ∷ (tree.field [] (class_type (qualified ((id 5 (at 0 30 34)) ∷ (id 6 (at 0 35 42)) ∷ []) (at 0 30 42)) no_types 0 (at 0 30 42)) (tree.more_variables (id 7 (at 0 43 44)) 0 tree.no_expression tree.no_variables) (at 0 30 45)) ∷ (tree.field [] (class_type (qualified ((id 8 (at 0 46 50)) ∷ (id 9 (at 0 51 54)) ∷ (id 10 (at 0 55 63)) ∷ []) (at 0 46 63)) (type_names ((class_type (qualified ((id 11 (at 0 64 67)) ∷ (id 12 (at 0 68 73)) ∷ (id 13 (at 0 74 79)) ∷ []) (at 0 64 79)) no_types 0 (at 0 64 79)) ∷ [])) 0 (at 0 46 80)) (tree.more_variables (id 14 (at 0 81 82)) 0 tree.no_expression tree.no_variables) (at 0 46 83)) ∷ [])) (at 0 0 85)) ∷ []) ∷ [])) ≡ None
unfolding first_fault faults sites settled depends digits
free_6 = refl

-- class G<T> { } class A { void f(G<A> a) { } void f(G<G<A>> b) { } }
pub free_7 : first_fault (source (codes "G" ∷ codes "T" ∷ codes "A" ∷ codes "f" ∷ codes "a" ∷ codes "b" ∷ []) (unit [] ((tree.class_declaration [] (id 0 (at 0 6 7)) ((parameter (id 1 (at 0 8 9)) None) ∷ []) None (type_names []) (members []) (at 0 0 14)) ∷ (tree.class_declaration [] (id 2 (at 0 21 22)) [] None (type_names []) (members ((tree.method [] None (id 3 (at 0 30 31)) ((formal (class_type (qualified ((id 0 (at 0 32 33)) ∷ []) (at 0 32 33)) (type_names ((class_type (qualified ((id 2 (at 0 34 35)) ∷ []) (at 0 34 35)) no_types 0 (at 0 34 35)) ∷ [])) 0 (at 0 32 36)) (id 4 (at 0 37 38)) 0) ∷ []) [] (tree.a_block (at 0 40 41) (statements []) (at 0 42 43)) (at 0 25 43)) ∷ (tree.method [] None (id 3 (at 0 49 50)) ((formal (class_type (qualified ((id 0 (at 0 51 52)) ∷ []) (at 0 51 52)) (type_names ((class_type (qualified ((id 0 (at 0 53 54)) ∷ []) (at 0 53 54)) (type_names ((class_type (qualified ((id 2 (at 0 55 56)) ∷ []) (at 0 55 56)) no_types 0 (at 0 55 56)) ∷ [])) 0 (at 0 53 57)) ∷ [])) 0 (at 0 51 58)) (id 5 (at 0 59 60)) 0) ∷ []) [] (tree.a_block (at 0 62 63) (statements []) (at 0 64 65)) (at 0 44 65)) ∷ [])) (at 0 15 67)) ∷ []) ∷ [])) ≡ None
unfolding first_fault faults sites settled depends digits
free_7 = refl

-- class A { private class P { } class B extends A { P p; } }
pub free_8 : first_fault (source (codes "A" ∷ codes "P" ∷ codes "B" ∷ codes "p" ∷ []) (unit [] ((tree.class_declaration [] (id 0 (at 0 6 7)) [] None (type_names []) (members ((tree.member_type (tree.class_declaration ((modified modifier.Private (at 0 10 17)) ∷ []) (id 1 (at 0 24 25)) [] None (type_names []) (members []) (at 0 18 29))) ∷ (tree.member_type (tree.class_declaration [] (id 2 (at 0 36 37)) [] (Some (class_type (qualified ((id 0 (at 0 46 47)) ∷ []) (at 0 46 47)) no_types 0 (at 0 46 47))) (type_names []) (members ((tree.field [] (class_type (qualified ((id 1 (at 0 50 51)) ∷ []) (at 0 50 51)) no_types 0 (at 0 50 51)) (tree.more_variables (id 3 (at 0 52 53)) 0 tree.no_expression tree.no_variables) (at 0 50 54)) ∷ [])) (at 0 30 56))) ∷ [])) (at 0 0 58)) ∷ []) ∷ [])) ≡ None
unfolding first_fault faults sites settled depends digits
free_8 = refl

-- class G<T> { static class T { } T f() { return null; } static T g; }
pub free_9 : first_fault (source (codes "G" ∷ codes "T" ∷ codes "f" ∷ codes "g" ∷ []) (unit [] ((tree.class_declaration [] (id 0 (at 0 6 7)) ((parameter (id 1 (at 0 8 9)) None) ∷ []) None (type_names []) (members ((tree.member_type (tree.class_declaration ((modified modifier.Static (at 0 13 19)) ∷ []) (id 1 (at 0 26 27)) [] None (type_names []) (members []) (at 0 20 31))) ∷ (tree.method [] (Some (class_type (qualified ((id 1 (at 0 32 33)) ∷ []) (at 0 32 33)) no_types 0 (at 0 32 33))) (id 2 (at 0 34 35)) [] [] (tree.a_block (at 0 38 39) (statements ((tree.return (at 0 40 46) (tree.an_expression (tree.this (at 0 47 51))) (at 0 40 52)) ∷ [])) (at 0 53 54)) (at 0 32 54)) ∷ (tree.field ((modified modifier.Static (at 0 55 61)) ∷ []) (class_type (qualified ((id 1 (at 0 62 63)) ∷ []) (at 0 62 63)) no_types 0 (at 0 62 63)) (tree.more_variables (id 3 (at 0 64 65)) 0 tree.no_expression tree.no_variables) (at 0 55 66)) ∷ [])) (at 0 0 68)) ∷ []) ∷ [])) ≡ None
unfolding first_fault faults sites settled depends digits
free_9 = refl

-- interface I { class X { } } interface J extends I { } interface K extends I { } class A implements J, K { X x; }
pub free_10 : first_fault (source (codes "I" ∷ codes "X" ∷ codes "J" ∷ codes "K" ∷ codes "A" ∷ codes "x" ∷ []) (unit [] ((tree.interface_declaration [] (id 0 (at 0 10 11)) [] (type_names []) (members ((tree.member_type (tree.class_declaration [] (id 1 (at 0 20 21)) [] None (type_names []) (members []) (at 0 14 25))) ∷ [])) (at 0 0 27)) ∷ (tree.interface_declaration [] (id 2 (at 0 38 39)) [] (type_names ((class_type (qualified ((id 0 (at 0 48 49)) ∷ []) (at 0 48 49)) no_types 0 (at 0 48 49)) ∷ [])) (members []) (at 0 28 53)) ∷ (tree.interface_declaration [] (id 3 (at 0 64 65)) [] (type_names ((class_type (qualified ((id 0 (at 0 74 75)) ∷ []) (at 0 74 75)) no_types 0 (at 0 74 75)) ∷ [])) (members []) (at 0 54 79)) ∷ (tree.class_declaration [] (id 4 (at 0 86 87)) [] None (type_names ((class_type (qualified ((id 2 (at 0 99 100)) ∷ []) (at 0 99 100)) no_types 0 (at 0 99 100)) ∷ (class_type (qualified ((id 3 (at 0 102 103)) ∷ []) (at 0 102 103)) no_types 0 (at 0 102 103)) ∷ [])) (members ((tree.field [] (class_type (qualified ((id 1 (at 0 106 107)) ∷ []) (at 0 106 107)) no_types 0 (at 0 106 107)) (tree.more_variables (id 5 (at 0 108 109)) 0 tree.no_expression tree.no_variables) (at 0 106 110)) ∷ [])) (at 0 80 112)) ∷ []) ∷ [])) ≡ None
unfolding first_fault faults sites settled depends digits
free_10 = refl

-- class A implements I.J { interface J { } } interface I { interface J { } }
pub free_11 : first_fault (source (codes "A" ∷ codes "I" ∷ codes "J" ∷ []) (unit [] ((tree.class_declaration [] (id 0 (at 0 6 7)) [] None (type_names ((class_type (qualified ((id 1 (at 0 19 20)) ∷ (id 2 (at 0 21 22)) ∷ []) (at 0 19 22)) no_types 0 (at 0 19 22)) ∷ [])) (members ((tree.member_type (tree.interface_declaration [] (id 2 (at 0 35 36)) [] (type_names []) (members []) (at 0 25 40))) ∷ [])) (at 0 0 42)) ∷ (tree.interface_declaration [] (id 1 (at 0 53 54)) [] (type_names []) (members ((tree.member_type (tree.interface_declaration [] (id 2 (at 0 67 68)) [] (type_names []) (members []) (at 0 57 72))) ∷ [])) (at 0 43 74)) ∷ []) ∷ [])) ≡ None
unfolding first_fault faults sites settled depends digits
free_11 = refl

-- import host.Console; import host.Console; class A { Console c; }
pub free_12 : first_fault (source (codes "host" ∷ codes "Console" ∷ codes "A" ∷ codes "c" ∷ []) (unit ((qualified ((id 0 (at 0 7 11)) ∷ (id 1 (at 0 12 19)) ∷ []) (at 0 7 19)) ∷ (qualified ((id 0 (at 0 28 32)) ∷ (id 1 (at 0 33 40)) ∷ []) (at 0 28 40)) ∷ []) ((tree.class_declaration [] (id 2 (at 0 48 49)) [] None (type_names []) (members ((tree.field [] (class_type (qualified ((id 1 (at 0 52 59)) ∷ []) (at 0 52 59)) no_types 0 (at 0 52 59)) (tree.more_variables (id 3 (at 0 60 61)) 0 tree.no_expression tree.no_variables) (at 0 52 62)) ∷ [])) (at 0 42 64)) ∷ []) ∷ [])) ≡ None
unfolding first_fault faults sites settled depends digits
free_12 = refl

-- class A { class B extends C { } } class C { class D extends A.B { } }
pub free_13 : first_fault (source (codes "A" ∷ codes "B" ∷ codes "C" ∷ codes "D" ∷ []) (unit [] ((tree.class_declaration [] (id 0 (at 0 6 7)) [] None (type_names []) (members ((tree.member_type (tree.class_declaration [] (id 1 (at 0 16 17)) [] (Some (class_type (qualified ((id 2 (at 0 26 27)) ∷ []) (at 0 26 27)) no_types 0 (at 0 26 27))) (type_names []) (members []) (at 0 10 31))) ∷ [])) (at 0 0 33)) ∷ (tree.class_declaration [] (id 2 (at 0 40 41)) [] None (type_names []) (members ((tree.member_type (tree.class_declaration [] (id 3 (at 0 50 51)) [] (Some (class_type (qualified ((id 0 (at 0 60 61)) ∷ (id 1 (at 0 62 63)) ∷ []) (at 0 60 63)) no_types 0 (at 0 60 63))) (type_names []) (members []) (at 0 44 67))) ∷ [])) (at 0 34 69)) ∷ []) ∷ [])) ≡ None
unfolding first_fault faults sites settled depends digits
free_13 = refl

-- class A { void A() { } A() { } }
pub free_14 : first_fault (source (codes "A" ∷ []) (unit [] ((tree.class_declaration [] (id 0 (at 0 6 7)) [] None (type_names []) (members ((tree.method [] None (id 0 (at 0 15 16)) [] [] (tree.a_block (at 0 19 20) (statements []) (at 0 21 22)) (at 0 10 22)) ∷ (tree.constructor [] (id 0 (at 0 23 24)) [] [] tree.implicit (at 0 27 28) (statements []) (at 0 29 30) (at 0 23 30)) ∷ [])) (at 0 0 32)) ∷ []) ∷ [])) ≡ None
unfolding first_fault faults sites settled depends digits
free_14 = refl

-- class A { void f() { switch (1) { case 1: class L { } class M extends L { } case 2: } } }
pub free_15 : first_fault (source (codes "A" ∷ codes "f" ∷ codes "L" ∷ codes "M" ∷ []) (unit [] ((tree.class_declaration [] (id 0 (at 0 6 7)) [] None (type_names []) (members ((tree.method [] None (id 1 (at 0 15 16)) [] [] (tree.a_block (at 0 19 20) (statements ((tree.switch (at 0 21 27) (tree.this (at 0 29 30)) (tree.more_groups (tree.case_label (tree.this (at 0 39 40)) tree.no_labels) (statements ((tree.local_class (tree.class_declaration [] (id 2 (at 0 48 49)) [] None (type_names []) (members []) (at 0 42 53))) ∷ (tree.local_class (tree.class_declaration [] (id 3 (at 0 60 61)) [] (Some (class_type (qualified ((id 2 (at 0 70 71)) ∷ []) (at 0 70 71)) no_types 0 (at 0 70 71))) (type_names []) (members []) (at 0 54 75))) ∷ [])) (tree.more_groups (tree.case_label (tree.this (at 0 81 82)) tree.no_labels) (statements []) tree.no_groups)) (at 0 21 85)) ∷ [])) (at 0 86 87)) (at 0 10 87)) ∷ [])) (at 0 0 89)) ∷ []) ∷ [])) ≡ None
unfolding first_fault faults sites settled depends digits
free_15 = refl

-- class G<T> { { class L { T x; } } G() { this(new Object() { T y; }); } G(Object o) { } }
pub free_16 : first_fault (source (codes "G" ∷ codes "T" ∷ codes "L" ∷ codes "x" ∷ codes "Object" ∷ codes "y" ∷ codes "o" ∷ []) (unit [] ((tree.class_declaration [] (id 0 (at 0 6 7)) ((parameter (id 1 (at 0 8 9)) None) ∷ []) None (type_names []) (members ((tree.initializer None (at 0 13 14) (statements ((tree.local_class (tree.class_declaration [] (id 2 (at 0 21 22)) [] None (type_names []) (members ((tree.field [] (class_type (qualified ((id 1 (at 0 25 26)) ∷ []) (at 0 25 26)) no_types 0 (at 0 25 26)) (tree.more_variables (id 3 (at 0 27 28)) 0 tree.no_expression tree.no_variables) (at 0 25 29)) ∷ [])) (at 0 15 31))) ∷ [])) (at 0 32 33) (at 0 13 33)) ∷ (tree.constructor [] (id 0 (at 0 34 35)) [] [] (tree.explicit false (at 0 40 44) (expressions ((tree.new_anonymous (at 0 45 48) (class_type (qualified ((id 4 (at 0 49 55)) ∷ []) (at 0 49 55)) no_types 0 (at 0 49 55)) (expressions []) (members ((tree.field [] (class_type (qualified ((id 1 (at 0 60 61)) ∷ []) (at 0 60 61)) no_types 0 (at 0 60 61)) (tree.more_variables (id 5 (at 0 62 63)) 0 tree.no_expression tree.no_variables) (at 0 60 64)) ∷ [])) (at 0 45 66)) ∷ []))) (at 0 38 39) (statements []) (at 0 69 70) (at 0 34 70)) ∷ (tree.constructor [] (id 0 (at 0 71 72)) ((formal (class_type (qualified ((id 4 (at 0 73 79)) ∷ []) (at 0 73 79)) no_types 0 (at 0 73 79)) (id 6 (at 0 80 81)) 0) ∷ []) [] tree.implicit (at 0 83 84) (statements []) (at 0 85 86) (at 0 71 86)) ∷ [])) (at 0 0 88)) ∷ []) ∷ [])) ≡ None
unfolding first_fault faults sites settled depends digits
free_16 = refl
