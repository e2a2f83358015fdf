-- Worked rows: a private member class, and type arguments. Above each stands its text, a line a unit.
use Rattle.std.proofs.Common.{◌≡◌, [], ◌∷◌, None, refl}
use Rattle.std.specs.Prelude.{codes}
use Rattle.je_ast.specs.declared.decl.ModifierKind.TheVariants as modifier
use Rattle.je_ast.specs.Types.{class_type, no_types, type_names}
use Rattle.je_ast.specs.Trees.{Declaration, CompilationUnit}
use Rattle.je_ast.specs.Trees as tree
use Rattle.je_ast.specs.Parts.{statements, members}
use Rattle.je_scopes.specs.Source.{source}
use Rattle.std.specs.Fmt.{digits}
use Rattle.je_scopes.specs.Sites.{sites}
use Rattle.je_scopes.specs.Settled.{settled, depends}
use Rattle.je_scopes.specs.Faults.{faults, first_fault}
use Rattle.je_scopes.proofs.Rows.Trees.{at, id, qualified, modified, parameter, unit, fault}

-- class A<T> { class L { } }
pub out_of_profile_1 : first_fault (source (codes "A" ∷ codes "T" ∷ codes "L" ∷ []) (unit [] ((tree.class_declaration [] (id 0 (at 0 6 7)) ((parameter (id 1 (at 0 8 9)) None) ∷ []) None (type_names []) (members ((tree.member_type (tree.class_declaration [] (id 2 (at 0 19 20)) [] None (type_names []) (members []) (at 0 13 24))) ∷ [])) (at 0 0 26)) ∷ []) ∷ [])) ≡ fault 5 (at 0 19 20)
unfolding first_fault faults sites settled depends digits
out_of_profile_1 = refl

-- class A { joee.lib.ConstRow r; }
pub out_of_profile_2 : first_fault (source (codes "A" ∷ codes "joee" ∷ codes "lib" ∷ codes "ConstRow" ∷ codes "r" ∷ []) (unit [] ((tree.class_declaration [] (id 0 (at 0 6 7)) [] None (type_names []) (members ((tree.field [] (class_type (qualified ((id 1 (at 0 10 14)) ∷ (id 2 (at 0 15 18)) ∷ (id 3 (at 0 19 27)) ∷ []) (at 0 10 27)) no_types 0 (at 0 10 27)) (tree.more_variables (id 4 (at 0 28 29)) 0 tree.no_expression tree.no_variables) (at 0 10 30)) ∷ [])) (at 0 0 32)) ∷ []) ∷ [])) ≡ fault 5 (at 0 10 27)
unfolding first_fault faults sites settled depends digits
out_of_profile_2 = refl

-- class A { Comparable c; }
pub out_of_profile_3 : first_fault (source (codes "A" ∷ codes "Comparable" ∷ codes "c" ∷ []) (unit [] ((tree.class_declaration [] (id 0 (at 0 6 7)) [] None (type_names []) (members ((tree.field [] (class_type (qualified ((id 1 (at 0 10 20)) ∷ []) (at 0 10 20)) no_types 0 (at 0 10 20)) (tree.more_variables (id 2 (at 0 21 22)) 0 tree.no_expression tree.no_variables) (at 0 10 23)) ∷ [])) (at 0 0 25)) ∷ []) ∷ [])) ≡ fault 5 (at 0 10 20)
unfolding first_fault faults sites settled depends digits
out_of_profile_3 = refl

-- class A { void f() throws Comparable { } }
pub out_of_profile_4 : first_fault (source (codes "A" ∷ codes "f" ∷ codes "Comparable" ∷ []) (unit [] ((tree.class_declaration [] (id 0 (at 0 6 7)) [] None (type_names []) (members ((tree.method [] None (id 1 (at 0 15 16)) [] ((qualified ((id 2 (at 0 26 36)) ∷ []) (at 0 26 36)) ∷ []) (tree.a_block (at 0 37 38) (statements []) (at 0 39 40)) (at 0 10 40)) ∷ [])) (at 0 0 42)) ∷ []) ∷ [])) ≡ fault 5 (at 0 26 36)
unfolding first_fault faults sites settled depends digits
out_of_profile_4 = refl

-- class A { private static class P { static class Q { } } } class B { A.P.Q q; }
pub not_accessible_1 : first_fault (source (codes "A" ∷ codes "P" ∷ codes "Q" ∷ codes "B" ∷ codes "q" ∷ []) (unit [] ((tree.class_declaration [] (id 0 (at 0 6 7)) [] None (type_names []) (members ((tree.member_type (tree.class_declaration ((modified modifier.Private (at 0 10 17)) ∷ (modified modifier.Static (at 0 18 24)) ∷ []) (id 1 (at 0 31 32)) [] None (type_names []) (members ((tree.member_type (tree.class_declaration ((modified modifier.Static (at 0 35 41)) ∷ []) (id 2 (at 0 48 49)) [] None (type_names []) (members []) (at 0 42 53))) ∷ [])) (at 0 25 55))) ∷ [])) (at 0 0 57)) ∷ (tree.class_declaration [] (id 3 (at 0 64 65)) [] None (type_names []) (members ((tree.field [] (class_type (qualified ((id 0 (at 0 68 69)) ∷ (id 1 (at 0 70 71)) ∷ (id 2 (at 0 72 73)) ∷ []) (at 0 68 73)) no_types 0 (at 0 68 73)) (tree.more_variables (id 4 (at 0 74 75)) 0 tree.no_expression tree.no_variables) (at 0 68 76)) ∷ [])) (at 0 58 78)) ∷ []) ∷ [])) ≡ fault 4 (at 0 68 73)
unfolding first_fault faults sites settled depends digits
not_accessible_1 = refl

-- class G<T,U> { G<G> x; }
pub out_of_profile_5 : first_fault (source (codes "G" ∷ codes "T" ∷ codes "U" ∷ codes "x" ∷ []) (unit [] ((tree.class_declaration [] (id 0 (at 0 6 7)) ((parameter (id 1 (at 0 8 9)) None) ∷ (parameter (id 2 (at 0 10 11)) None) ∷ []) None (type_names []) (members ((tree.field [] (class_type (qualified ((id 0 (at 0 15 16)) ∷ []) (at 0 15 16)) (type_names ((class_type (qualified ((id 0 (at 0 17 18)) ∷ []) (at 0 17 18)) no_types 0 (at 0 17 18)) ∷ [])) 0 (at 0 15 19)) (tree.more_variables (id 3 (at 0 20 21)) 0 tree.no_expression tree.no_variables) (at 0 15 22)) ∷ [])) (at 0 0 24)) ∷ []) ∷ [])) ≡ fault 5 (at 0 15 16)
unfolding first_fault faults sites settled depends digits
out_of_profile_5 = refl

-- class G<T> { G<T> a; G<T> b; T<T> c; }
pub out_of_profile_6 : first_fault (source (codes "G" ∷ codes "T" ∷ codes "a" ∷ codes "b" ∷ codes "c" ∷ []) (unit [] ((tree.class_declaration [] (id 0 (at 0 6 7)) ((parameter (id 1 (at 0 8 9)) None) ∷ []) None (type_names []) (members ((tree.field [] (class_type (qualified ((id 0 (at 0 13 14)) ∷ []) (at 0 13 14)) (type_names ((class_type (qualified ((id 1 (at 0 15 16)) ∷ []) (at 0 15 16)) no_types 0 (at 0 15 16)) ∷ [])) 0 (at 0 13 17)) (tree.more_variables (id 2 (at 0 18 19)) 0 tree.no_expression tree.no_variables) (at 0 13 20)) ∷ (tree.field [] (class_type (qualified ((id 0 (at 0 21 22)) ∷ []) (at 0 21 22)) (type_names ((class_type (qualified ((id 1 (at 0 23 24)) ∷ []) (at 0 23 24)) no_types 0 (at 0 23 24)) ∷ [])) 0 (at 0 21 25)) (tree.more_variables (id 3 (at 0 26 27)) 0 tree.no_expression tree.no_variables) (at 0 21 28)) ∷ (tree.field [] (class_type (qualified ((id 1 (at 0 29 30)) ∷ []) (at 0 29 30)) (type_names ((class_type (qualified ((id 1 (at 0 31 32)) ∷ []) (at 0 31 32)) no_types 0 (at 0 31 32)) ∷ [])) 0 (at 0 29 33)) (tree.more_variables (id 4 (at 0 34 35)) 0 tree.no_expression tree.no_variables) (at 0 29 36)) ∷ [])) (at 0 0 38)) ∷ []) ∷ [])) ≡ fault 5 (at 0 29 30)
unfolding first_fault faults sites settled depends digits
out_of_profile_6 = refl
