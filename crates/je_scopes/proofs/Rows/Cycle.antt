-- Worked rows: a class that depends on itself, or a type variable whose bound leads back to it. Above each stands its text, a line a unit.
use Rattle.std.proofs.Common.{◌≡◌, [], ◌∷◌, Some, None, refl}
use Rattle.std.specs.Prelude.{codes}
use Rattle.je_ast.specs.declared.decl.ModifierKind.TheVariants as modifier
use Rattle.je_ast.specs.Types.{class_type, no_types, type_names}
use Rattle.je_ast.specs.Trees.{Declaration, CompilationUnit}
use Rattle.je_ast.specs.Trees as tree
use Rattle.je_ast.specs.Parts.{statements, members}
use Rattle.je_scopes.specs.Source.{source}
use Rattle.std.specs.Fmt.{digits}
use Rattle.je_scopes.specs.Sites.{sites}
use Rattle.je_scopes.specs.Settled.{settled, depends}
use Rattle.je_scopes.specs.Faults.{faults, first_fault}
use Rattle.je_scopes.proofs.Rows.Trees.{at, id, qualified, modified, parameter, unit, fault}

-- class A extends B {} class B extends A {}
pub cycle_1 : first_fault (source (codes "A" ∷ codes "B" ∷ []) (unit [] ((tree.class_declaration [] (id 0 (at 0 6 7)) [] (Some (class_type (qualified ((id 1 (at 0 16 17)) ∷ []) (at 0 16 17)) no_types 0 (at 0 16 17))) (type_names []) (members []) (at 0 0 20)) ∷ (tree.class_declaration [] (id 1 (at 0 27 28)) [] (Some (class_type (qualified ((id 0 (at 0 37 38)) ∷ []) (at 0 37 38)) no_types 0 (at 0 37 38))) (type_names []) (members []) (at 0 21 41)) ∷ []) ∷ [])) ≡ fault 3 (at 0 16 17)
unfolding first_fault faults sites settled depends digits
cycle_1 = refl

-- class B extends A { } class A extends B.X { }
pub cycle_2 : first_fault (source (codes "B" ∷ codes "A" ∷ codes "X" ∷ []) (unit [] ((tree.class_declaration [] (id 0 (at 0 6 7)) [] (Some (class_type (qualified ((id 1 (at 0 16 17)) ∷ []) (at 0 16 17)) no_types 0 (at 0 16 17))) (type_names []) (members []) (at 0 0 21)) ∷ (tree.class_declaration [] (id 1 (at 0 28 29)) [] (Some (class_type (qualified ((id 0 (at 0 38 39)) ∷ (id 2 (at 0 40 41)) ∷ []) (at 0 38 41)) no_types 0 (at 0 38 41))) (type_names []) (members []) (at 0 22 45)) ∷ []) ∷ [])) ≡ fault 3 (at 0 16 17)
unfolding first_fault faults sites settled depends digits
cycle_2 = refl

-- class A { void f() { class L extends L { } } }
pub cycle_3 : first_fault (source (codes "A" ∷ codes "f" ∷ codes "L" ∷ []) (unit [] ((tree.class_declaration [] (id 0 (at 0 6 7)) [] None (type_names []) (members ((tree.method [] None (id 1 (at 0 15 16)) [] [] (tree.a_block (at 0 19 20) (statements ((tree.local_class (tree.class_declaration [] (id 2 (at 0 27 28)) [] (Some (class_type (qualified ((id 2 (at 0 37 38)) ∷ []) (at 0 37 38)) no_types 0 (at 0 37 38))) (type_names []) (members []) (at 0 21 42))) ∷ [])) (at 0 43 44)) (at 0 10 44)) ∷ [])) (at 0 0 46)) ∷ []) ∷ [])) ≡ fault 3 (at 0 37 38)
unfolding first_fault faults sites settled depends digits
cycle_3 = refl

-- class A<T extends U, U extends V, V extends U> { }
pub cycle_4 : first_fault (source (codes "A" ∷ codes "T" ∷ codes "U" ∷ codes "V" ∷ []) (unit [] ((tree.class_declaration [] (id 0 (at 0 6 7)) ((parameter (id 1 (at 0 8 9)) (Some (class_type (qualified ((id 2 (at 0 18 19)) ∷ []) (at 0 18 19)) no_types 0 (at 0 18 19)))) ∷ (parameter (id 2 (at 0 21 22)) (Some (class_type (qualified ((id 3 (at 0 31 32)) ∷ []) (at 0 31 32)) no_types 0 (at 0 31 32)))) ∷ (parameter (id 3 (at 0 34 35)) (Some (class_type (qualified ((id 2 (at 0 44 45)) ∷ []) (at 0 44 45)) no_types 0 (at 0 44 45)))) ∷ []) None (type_names []) (members []) (at 0 0 50)) ∷ []) ∷ [])) ≡ fault 3 (at 0 31 32)
unfolding first_fault faults sites settled depends digits
cycle_4 = refl

-- class A { class B extends A.B { } }
pub cycle_5 : first_fault (source (codes "A" ∷ codes "B" ∷ []) (unit [] ((tree.class_declaration [] (id 0 (at 0 6 7)) [] None (type_names []) (members ((tree.member_type (tree.class_declaration [] (id 1 (at 0 16 17)) [] (Some (class_type (qualified ((id 0 (at 0 26 27)) ∷ (id 1 (at 0 28 29)) ∷ []) (at 0 26 29)) no_types 0 (at 0 26 29))) (type_names []) (members []) (at 0 10 33))) ∷ [])) (at 0 0 35)) ∷ []) ∷ [])) ≡ fault 3 (at 0 26 29)
unfolding first_fault faults sites settled depends digits
cycle_5 = refl

-- class A extends B { } class B extends C { } class C extends B { }
pub cycle_6 : first_fault (source (codes "A" ∷ codes "B" ∷ codes "C" ∷ []) (unit [] ((tree.class_declaration [] (id 0 (at 0 6 7)) [] (Some (class_type (qualified ((id 1 (at 0 16 17)) ∷ []) (at 0 16 17)) no_types 0 (at 0 16 17))) (type_names []) (members []) (at 0 0 21)) ∷ (tree.class_declaration [] (id 1 (at 0 28 29)) [] (Some (class_type (qualified ((id 2 (at 0 38 39)) ∷ []) (at 0 38 39)) no_types 0 (at 0 38 39))) (type_names []) (members []) (at 0 22 43)) ∷ (tree.class_declaration [] (id 2 (at 0 50 51)) [] (Some (class_type (qualified ((id 1 (at 0 60 61)) ∷ []) (at 0 60 61)) no_types 0 (at 0 60 61))) (type_names []) (members []) (at 0 44 65)) ∷ []) ∷ [])) ≡ fault 3 (at 0 38 39)
unfolding first_fault faults sites settled depends digits
cycle_6 = refl

-- class P { class A extends Q.B { } } class Q { class B extends P.A { } }
pub cycle_7 : first_fault (source (codes "P" ∷ codes "A" ∷ codes "Q" ∷ codes "B" ∷ []) (unit [] ((tree.class_declaration [] (id 0 (at 0 6 7)) [] None (type_names []) (members ((tree.member_type (tree.class_declaration [] (id 1 (at 0 16 17)) [] (Some (class_type (qualified ((id 2 (at 0 26 27)) ∷ (id 3 (at 0 28 29)) ∷ []) (at 0 26 29)) no_types 0 (at 0 26 29))) (type_names []) (members []) (at 0 10 33))) ∷ [])) (at 0 0 35)) ∷ (tree.class_declaration [] (id 2 (at 0 42 43)) [] None (type_names []) (members ((tree.member_type (tree.class_declaration [] (id 3 (at 0 52 53)) [] (Some (class_type (qualified ((id 0 (at 0 62 63)) ∷ (id 1 (at 0 64 65)) ∷ []) (at 0 62 65)) no_types 0 (at 0 62 65))) (type_names []) (members []) (at 0 46 69))) ∷ [])) (at 0 36 71)) ∷ []) ∷ [])) ≡ fault 3 (at 0 26 29)
unfolding first_fault faults sites settled depends digits
cycle_7 = refl

-- class A extends C.D { } class C extends A { static class D { } }
pub cycle_8 : first_fault (source (codes "A" ∷ codes "C" ∷ codes "D" ∷ []) (unit [] ((tree.class_declaration [] (id 0 (at 0 6 7)) [] (Some (class_type (qualified ((id 1 (at 0 16 17)) ∷ (id 2 (at 0 18 19)) ∷ []) (at 0 16 19)) no_types 0 (at 0 16 19))) (type_names []) (members []) (at 0 0 23)) ∷ (tree.class_declaration [] (id 1 (at 0 30 31)) [] (Some (class_type (qualified ((id 0 (at 0 40 41)) ∷ []) (at 0 40 41)) no_types 0 (at 0 40 41))) (type_names []) (members ((tree.member_type (tree.class_declaration ((modified modifier.Static (at 0 44 50)) ∷ []) (id 2 (at 0 57 58)) [] None (type_names []) (members []) (at 0 51 62))) ∷ [])) (at 0 24 64)) ∷ []) ∷ [])) ≡ fault 3 (at 0 16 19)
unfolding first_fault faults sites settled depends digits
cycle_8 = refl
