-- Worked rows: a name that is declared twice. Above each stands its text, a line a unit.
use Rattle.std.proofs.Common.{◌≡◌, [], ◌∷◌, Some, None, refl}
use Rattle.std.specs.Prelude.{codes}
use Rattle.je_ast.specs.declared.ty_name.Primitive.TheVariants as word
use Rattle.je_ast.specs.Types.{primitive, class_type, no_types, type_names}
use Rattle.je_ast.specs.Trees.{Declaration, CompilationUnit}
use Rattle.je_ast.specs.Trees as tree
use Rattle.je_ast.specs.Parts.{expressions, statements, members}
use Rattle.je_scopes.specs.Source.{source}
use Rattle.std.specs.Fmt.{digits}
use Rattle.je_scopes.specs.Sites.{sites}
use Rattle.je_scopes.specs.Settled.{settled, depends}
use Rattle.je_scopes.specs.Faults.{faults, first_fault}
use Rattle.je_scopes.proofs.Rows.Trees.{at, id, qualified, parameter, formal, unit, fault}

-- enum E { A, A }
pub twice_1 : first_fault (source (codes "E" ∷ codes "A" ∷ []) (unit [] ((tree.enum_declaration [] (id 0 (at 0 5 6)) ((id 1 (at 0 9 10)) ∷ (id 1 (at 0 12 13)) ∷ []) (at 0 0 15)) ∷ []) ∷ [])) ≡ fault 1 (at 0 12 13)
unfolding first_fault faults sites settled depends digits
twice_1 = refl

-- import host.Console; class A {}
-- class Console {}
pub twice_2 : first_fault (source (codes "host" ∷ codes "Console" ∷ codes "A" ∷ []) (unit ((qualified ((id 0 (at 0 7 11)) ∷ (id 1 (at 0 12 19)) ∷ []) (at 0 7 19)) ∷ []) ((tree.class_declaration [] (id 2 (at 0 27 28)) [] None (type_names []) (members []) (at 0 21 31)) ∷ []) ∷ unit [] ((tree.class_declaration [] (id 1 (at 1 6 13)) [] None (type_names []) (members []) (at 1 0 16)) ∷ []) ∷ [])) ≡ fault 1 (at 1 6 13)
unfolding first_fault faults sites settled depends digits
twice_2 = refl

-- class Console {}
-- import host.Console; class A {}
pub twice_3 : first_fault (source (codes "Console" ∷ codes "host" ∷ codes "A" ∷ []) (unit [] ((tree.class_declaration [] (id 0 (at 0 6 13)) [] None (type_names []) (members []) (at 0 0 16)) ∷ []) ∷ unit ((qualified ((id 1 (at 1 7 11)) ∷ (id 0 (at 1 12 19)) ∷ []) (at 1 7 19)) ∷ []) ((tree.class_declaration [] (id 2 (at 1 27 28)) [] None (type_names []) (members []) (at 1 21 31)) ∷ []) ∷ [])) ≡ fault 1 (at 0 6 13)
unfolding first_fault faults sites settled depends digits
twice_3 = refl

-- class A {}
-- class A {}
pub twice_4 : first_fault (source (codes "A" ∷ []) (unit [] ((tree.class_declaration [] (id 0 (at 0 6 7)) [] None (type_names []) (members []) (at 0 0 10)) ∷ []) ∷ unit [] ((tree.class_declaration [] (id 0 (at 1 6 7)) [] None (type_names []) (members []) (at 1 0 10)) ∷ []) ∷ [])) ≡ fault 1 (at 1 6 7)
unfolding first_fault faults sites settled depends digits
twice_4 = refl

-- class A$B {} class A { class B {} }
pub twice_5 : first_fault (source (codes "A$B" ∷ codes "A" ∷ codes "B" ∷ []) (unit [] ((tree.class_declaration [] (id 0 (at 0 6 9)) [] None (type_names []) (members []) (at 0 0 12)) ∷ (tree.class_declaration [] (id 1 (at 0 19 20)) [] None (type_names []) (members ((tree.member_type (tree.class_declaration [] (id 2 (at 0 29 30)) [] None (type_names []) (members []) (at 0 23 33))) ∷ [])) (at 0 13 35)) ∷ []) ∷ [])) ≡ fault 1 (at 0 29 30)
unfolding first_fault faults sites settled depends digits
twice_5 = refl

-- class A$1 {} class A { Object o = new Object() {}; }
pub twice_6 : first_fault (source (codes "A$1" ∷ codes "A" ∷ codes "Object" ∷ codes "o" ∷ []) (unit [] ((tree.class_declaration [] (id 0 (at 0 6 9)) [] None (type_names []) (members []) (at 0 0 12)) ∷ (tree.class_declaration [] (id 1 (at 0 19 20)) [] None (type_names []) (members ((tree.field [] (class_type (qualified ((id 2 (at 0 23 29)) ∷ []) (at 0 23 29)) no_types 0 (at 0 23 29)) (tree.more_variables (id 3 (at 0 30 31)) 0 (tree.an_expression (tree.new_anonymous (at 0 34 37) (class_type (qualified ((id 2 (at 0 38 44)) ∷ []) (at 0 38 44)) no_types 0 (at 0 38 44)) (expressions []) (members []) (at 0 34 49))) tree.no_variables) (at 0 23 50)) ∷ [])) (at 0 13 52)) ∷ []) ∷ [])) ≡ fault 1 (at 0 34 37)
unfolding first_fault faults sites settled depends digits
twice_6 = refl

-- class A$1L {} class A { void f() { class L {} } }
pub twice_7 : first_fault (source (codes "A$1L" ∷ codes "A" ∷ codes "f" ∷ codes "L" ∷ []) (unit [] ((tree.class_declaration [] (id 0 (at 0 6 10)) [] None (type_names []) (members []) (at 0 0 13)) ∷ (tree.class_declaration [] (id 1 (at 0 20 21)) [] None (type_names []) (members ((tree.method [] None (id 2 (at 0 29 30)) [] [] (tree.a_block (at 0 33 34) (statements ((tree.local_class (tree.class_declaration [] (id 3 (at 0 41 42)) [] None (type_names []) (members []) (at 0 35 45))) ∷ [])) (at 0 46 47)) (at 0 24 47)) ∷ [])) (at 0 14 49)) ∷ []) ∷ [])) ≡ fault 1 (at 0 41 42)
unfolding first_fault faults sites settled depends digits
twice_7 = refl

-- class A { void f(int[] a[]) { } void f(int[][] b) { } }
pub twice_8 : first_fault (source (codes "A" ∷ codes "f" ∷ codes "a" ∷ codes "b" ∷ []) (unit [] ((tree.class_declaration [] (id 0 (at 0 6 7)) [] None (type_names []) (members ((tree.method [] None (id 1 (at 0 15 16)) ((formal (primitive word.Int 1 (at 0 17 22)) (id 2 (at 0 23 24)) 1) ∷ []) [] (tree.a_block (at 0 28 29) (statements []) (at 0 30 31)) (at 0 10 31)) ∷ (tree.method [] None (id 1 (at 0 37 38)) ((formal (primitive word.Int 2 (at 0 39 46)) (id 3 (at 0 47 48)) 0) ∷ []) [] (tree.a_block (at 0 50 51) (statements []) (at 0 52 53)) (at 0 32 53)) ∷ [])) (at 0 0 55)) ∷ []) ∷ [])) ≡ fault 1 (at 0 37 38)
unfolding first_fault faults sites settled depends digits
twice_8 = refl

-- class A { int x, y, x; }
pub twice_9 : first_fault (source (codes "A" ∷ codes "x" ∷ codes "y" ∷ []) (unit [] ((tree.class_declaration [] (id 0 (at 0 6 7)) [] None (type_names []) (members ((tree.field [] (primitive word.Int 0 (at 0 10 13)) (tree.more_variables (id 1 (at 0 14 15)) 0 tree.no_expression (tree.more_variables (id 2 (at 0 17 18)) 0 tree.no_expression (tree.more_variables (id 1 (at 0 20 21)) 0 tree.no_expression tree.no_variables))) (at 0 10 22)) ∷ [])) (at 0 0 24)) ∷ []) ∷ [])) ≡ fault 1 (at 0 20 21)
unfolding first_fault faults sites settled depends digits
twice_9 = refl

-- class A { void f() { class A2 { class A { } } } }
pub twice_10 : first_fault (source (codes "A" ∷ codes "f" ∷ codes "A2" ∷ []) (unit [] ((tree.class_declaration [] (id 0 (at 0 6 7)) [] None (type_names []) (members ((tree.method [] None (id 1 (at 0 15 16)) [] [] (tree.a_block (at 0 19 20) (statements ((tree.local_class (tree.class_declaration [] (id 2 (at 0 27 29)) [] None (type_names []) (members ((tree.member_type (tree.class_declaration [] (id 0 (at 0 38 39)) [] None (type_names []) (members []) (at 0 32 43))) ∷ [])) (at 0 21 45))) ∷ [])) (at 0 46 47)) (at 0 10 47)) ∷ [])) (at 0 0 49)) ∷ []) ∷ [])) ≡ fault 1 (at 0 38 39)
unfolding first_fault faults sites settled depends digits
twice_10 = refl

-- class A { Object o = new A() { class A { } }; }
pub twice_11 : first_fault (source (codes "A" ∷ codes "Object" ∷ codes "o" ∷ []) (unit [] ((tree.class_declaration [] (id 0 (at 0 6 7)) [] None (type_names []) (members ((tree.field [] (class_type (qualified ((id 1 (at 0 10 16)) ∷ []) (at 0 10 16)) no_types 0 (at 0 10 16)) (tree.more_variables (id 2 (at 0 17 18)) 0 (tree.an_expression (tree.new_anonymous (at 0 21 24) (class_type (qualified ((id 0 (at 0 25 26)) ∷ []) (at 0 25 26)) no_types 0 (at 0 25 26)) (expressions []) (members ((tree.member_type (tree.class_declaration [] (id 0 (at 0 37 38)) [] None (type_names []) (members []) (at 0 31 42))) ∷ [])) (at 0 21 44))) tree.no_variables) (at 0 10 45)) ∷ [])) (at 0 0 47)) ∷ []) ∷ [])) ≡ fault 1 (at 0 37 38)
unfolding first_fault faults sites settled depends digits
twice_11 = refl

-- class A { void f() { } void f(int x) { } A f; int f; }
pub twice_12 : first_fault (source (codes "A" ∷ codes "f" ∷ codes "x" ∷ []) (unit [] ((tree.class_declaration [] (id 0 (at 0 6 7)) [] None (type_names []) (members ((tree.method [] None (id 1 (at 0 15 16)) [] [] (tree.a_block (at 0 19 20) (statements []) (at 0 21 22)) (at 0 10 22)) ∷ (tree.method [] None (id 1 (at 0 28 29)) ((formal (primitive word.Int 0 (at 0 30 33)) (id 2 (at 0 34 35)) 0) ∷ []) [] (tree.a_block (at 0 37 38) (statements []) (at 0 39 40)) (at 0 23 40)) ∷ (tree.field [] (class_type (qualified ((id 0 (at 0 41 42)) ∷ []) (at 0 41 42)) no_types 0 (at 0 41 42)) (tree.more_variables (id 1 (at 0 43 44)) 0 tree.no_expression tree.no_variables) (at 0 41 45)) ∷ (tree.field [] (primitive word.Int 0 (at 0 46 49)) (tree.more_variables (id 1 (at 0 50 51)) 0 tree.no_expression tree.no_variables) (at 0 46 52)) ∷ [])) (at 0 0 54)) ∷ []) ∷ [])) ≡ fault 1 (at 0 50 51)
unfolding first_fault faults sites settled depends digits
twice_12 = refl

-- class A { void f(A[] a) { } void f(A b[]) { } }
pub twice_13 : first_fault (source (codes "A" ∷ codes "f" ∷ codes "a" ∷ codes "b" ∷ []) (unit [] ((tree.class_declaration [] (id 0 (at 0 6 7)) [] None (type_names []) (members ((tree.method [] None (id 1 (at 0 15 16)) ((formal (class_type (qualified ((id 0 (at 0 17 18)) ∷ []) (at 0 17 18)) no_types 1 (at 0 17 20)) (id 2 (at 0 21 22)) 0) ∷ []) [] (tree.a_block (at 0 24 25) (statements []) (at 0 26 27)) (at 0 10 27)) ∷ (tree.method [] None (id 1 (at 0 33 34)) ((formal (class_type (qualified ((id 0 (at 0 35 36)) ∷ []) (at 0 35 36)) no_types 0 (at 0 35 36)) (id 3 (at 0 37 38)) 1) ∷ []) [] (tree.a_block (at 0 42 43) (statements []) (at 0 44 45)) (at 0 28 45)) ∷ [])) (at 0 0 47)) ∷ []) ∷ [])) ≡ fault 1 (at 0 33 34)
unfolding first_fault faults sites settled depends digits
twice_13 = refl

-- interface I { int x = 1; } class C<T> { void f(T t) { } int f(T u) { return 1; } }
pub twice_14 : first_fault (source (codes "I" ∷ codes "x" ∷ codes "C" ∷ codes "T" ∷ codes "f" ∷ codes "t" ∷ codes "u" ∷ []) (unit [] ((tree.interface_declaration [] (id 0 (at 0 10 11)) [] (type_names []) (members ((tree.field [] (primitive word.Int 0 (at 0 14 17)) (tree.more_variables (id 1 (at 0 18 19)) 0 (tree.an_expression (tree.this (at 0 22 23))) tree.no_variables) (at 0 14 24)) ∷ [])) (at 0 0 26)) ∷ (tree.class_declaration [] (id 2 (at 0 33 34)) ((parameter (id 3 (at 0 35 36)) None) ∷ []) None (type_names []) (members ((tree.method [] None (id 4 (at 0 45 46)) ((formal (class_type (qualified ((id 3 (at 0 47 48)) ∷ []) (at 0 47 48)) no_types 0 (at 0 47 48)) (id 5 (at 0 49 50)) 0) ∷ []) [] (tree.a_block (at 0 52 53) (statements []) (at 0 54 55)) (at 0 40 55)) ∷ (tree.method [] (Some (primitive word.Int 0 (at 0 56 59))) (id 4 (at 0 60 61)) ((formal (class_type (qualified ((id 3 (at 0 62 63)) ∷ []) (at 0 62 63)) no_types 0 (at 0 62 63)) (id 6 (at 0 64 65)) 0) ∷ []) [] (tree.a_block (at 0 67 68) (statements ((tree.return (at 0 69 75) (tree.an_expression (tree.this (at 0 76 77))) (at 0 69 78)) ∷ [])) (at 0 79 80)) (at 0 56 80)) ∷ [])) (at 0 27 82)) ∷ []) ∷ [])) ≡ fault 1 (at 0 60 61)
unfolding first_fault faults sites settled depends digits
twice_14 = refl
