-- Worked rows: headers with what is implicit in them.
use Rattle.std.proofs.Common.{◌≡◌, refl}
use Rattle.std.specs.Prelude.{ℕ, false, List, [], ◌∷◌, Option, Some, None}
use Rattle.je_core.specs.declared.program.Access.TheVariants as access
use Rattle.je_core.specs.declared.program.Kind.{Kind}
use Rattle.je_core.specs.declared.program.Sort.{Sort}
use Rattle.je_core.specs.declared.program.Sort.TheVariants as sort
use Rattle.je_classes.specs.Hierarchy.{object_class, library_class}
use Rattle.je_scopes.specs.SourceTypes.{SourceType, of_class, of_variable, no_source_types}
use Rattle.source_types.specs.Heads.{ClassHead, object_type}
use Rattle.declarations.specs.Declarations.{DeclaredClass, DeclaredParameter}
use Rattle.class_heads.specs.Headers.{class_heads}

abbrev kind : Sort → Kind
kind s = record { sort = s; is_abstract = false; is_final = false; is_static = false }

abbrev declared : Sort → List DeclaredParameter → List SourceType → DeclaredClass
declared s parameters heads = record { kind = kind s; access = access.Package; parameters = parameters; heads = heads; fields = []; methods = [] }

abbrev parameter : Option SourceType → DeclaredParameter
parameter bound = record { name = record { name = record { 0 = 0 }; span = record { file = 0; start = 0; end = 0 } }; bound = bound }

abbrev head : Sort → List SourceType → List SourceType → ClassHead
head s bounds supers = record { kind = kind s; bounds = bounds; supers = supers }

abbrev of : ℕ → SourceType
of c = of_class c no_source_types 0

-- class Object, class A { }, interface I { }, class B implements I { }, class C extends A implements I { }, enum E { },
-- interface J extends I { }
supers_are_there :
    class_heads (declared sort.Class [] [] ∷ declared sort.Class [] [] ∷ declared sort.Interface [] [] ∷ declared sort.Class [] (of 2 ∷ []) ∷
    declared sort.Class [] (of 1 ∷ of 2 ∷ []) ∷ declared sort.Enum [] [] ∷ declared sort.Interface [] (of 2 ∷ []) ∷ []) ≡
    head sort.Class [] [] ∷ head sort.Class [] (object_type ∷ []) ∷ head sort.Interface [] [] ∷ head sort.Class [] (object_type ∷ of 2 ∷ []) ∷
    head sort.Class [] (of 1 ∷ of 2 ∷ []) ∷ head sort.Enum [] (object_type ∷ []) ∷ head sort.Interface [] (of 2 ∷ []) ∷ []
unfolding class_heads object_class library_class
supers_are_there = refl

-- new I() { }, new A() { }
anonymous_classes :
    class_heads (declared sort.Class [] [] ∷ declared sort.Interface [] [] ∷ declared sort.Anonymous [] (of 1 ∷ []) ∷ declared sort.Anonymous [] (of 0 ∷ []) ∷ []) ≡
    head sort.Class [] [] ∷ head sort.Interface [] [] ∷ head sort.Anonymous [] (object_type ∷ of 1 ∷ []) ∷ head sort.Anonymous [] (of 0 ∷ []) ∷ []
unfolding class_heads object_class library_class
anonymous_classes = refl

-- interface G<T, U extends T> { }
bounds_are_there :
    class_heads (declared sort.Class [] [] ∷ declared sort.Interface (parameter None ∷ parameter (Some (of_variable 1 0 0)) ∷ []) [] ∷ []) ≡
    head sort.Class [] [] ∷ head sort.Interface (object_type ∷ of_variable 1 0 0 ∷ []) [] ∷ []
unfolding class_heads object_class library_class
bounds_are_there = refl
