-- Worked rows: the headers of a few classes, and what is above and below what.
use Rattle.std.proofs.Common.{◌≡◌, ℕ, List, [], ◌∷◌, refl}
use Rattle.std.specs.Prelude.{true, false}
use Rattle.je_core.specs.declared.program.Sort.{Sort}
use Rattle.je_core.specs.declared.program.Sort.TheVariants as sort
use Rattle.je_core.specs.declared.types.Base.TheVariants as base
use Rattle.je_classes.specs.Hierarchy.{object_class, library_class}
use Rattle.je_scopes.specs.SourceTypes.{SourceType, plain, of_class, of_variable, source_types, no_source_types, null_type}
use Rattle.source_types.specs.Heads.{ClassHead, object_type}
use Rattle.source_types.specs.Erasure.{erased, type, class_numbered}
use Rattle.source_types.specs.Substitution.{substituted}
use Rattle.source_types.specs.Supertypes.{supertypes}
use Rattle.source_types.specs.Subtypes.{is_subtype}

abbrev head : Sort → List SourceType → List SourceType → ClassHead
head s bounds supers = record { kind = record { sort = s; is_abstract = false; is_final = false; is_static = false }; bounds = bounds; supers = supers }

abbrev of : ℕ → List SourceType → SourceType
of c args = of_class c (source_types args) 0

abbrev array : ℕ → SourceType
array c = of_class c no_source_types 1

abbrev variable : ℕ → ℕ → SourceType
variable c at = of_variable c at 0

-- class Object
-- class Text extends Object implements Order<Text>
-- interface Order<T>
-- class Box<T extends Order<T>> extends Object
-- class Texts extends Box<Text>
-- class Pair<A, B extends A> extends Box<A>
unfoldable heads : List ClassHead
heads =
    head sort.Class [] [] ∷
    head sort.Class [] (object_type ∷ of 2 (of 1 [] ∷ []) ∷ []) ∷
    head sort.Interface (object_type ∷ []) [] ∷
    head sort.Class (of 2 (variable 3 0 ∷ []) ∷ []) (object_type ∷ []) ∷
    head sort.Class [] (of 3 (of 1 [] ∷ []) ∷ []) ∷
    head sort.Class (object_type ∷ variable 5 0 ∷ []) (of 3 (variable 5 0 ∷ []) ∷ []) ∷
    []

abbrev text : SourceType
text = of 1 []

abbrev ints : SourceType
ints = plain base.Int 1

-- ---- which type is below which

arguments_are_put_in : is_subtype heads (of 4 []) (of 3 (text ∷ [])) ≡ true
unfolding is_subtype supertypes heads object_class library_class
arguments_are_put_in = refl

arguments_are_the_same : is_subtype heads (of 4 []) (of 3 (object_type ∷ [])) ≡ false
unfolding is_subtype supertypes heads object_class library_class
arguments_are_the_same = refl

by_the_place_of_a_variable : is_subtype heads (of 5 (text ∷ object_type ∷ [])) (of 3 (text ∷ [])) ≡ true
unfolding is_subtype supertypes heads object_class library_class
by_the_place_of_a_variable = refl

not_by_another_place : is_subtype heads (of 5 (object_type ∷ text ∷ [])) (of 3 (text ∷ [])) ≡ false
unfolding is_subtype supertypes heads object_class library_class
not_by_another_place = refl

an_interface_of_a_class : is_subtype heads text (of 2 (text ∷ [])) ≡ true
unfolding is_subtype supertypes heads object_class library_class
an_interface_of_a_class = refl

a_variable_below_its_bound : is_subtype heads (variable 5 1) (variable 5 0) ≡ true
unfolding is_subtype supertypes heads object_class library_class
a_variable_below_its_bound = refl

no_bound_below_its_variable : is_subtype heads (variable 5 0) (variable 5 1) ≡ false
unfolding is_subtype supertypes heads object_class library_class
no_bound_below_its_variable = refl

through_a_bound : is_subtype heads (variable 3 0) (of 2 (variable 3 0 ∷ [])) ≡ true
unfolding is_subtype supertypes heads object_class library_class
through_a_bound = refl

interfaces_below_object : is_subtype heads (of 2 (text ∷ [])) object_type ≡ true
unfolding is_subtype supertypes heads object_class library_class
interfaces_below_object = refl

variables_below_object : is_subtype heads (variable 5 1) object_type ≡ true
unfolding is_subtype supertypes heads object_class library_class
variables_below_object = refl

arrays_with_their_elements : is_subtype heads (array 1) (array 0) ≡ true
unfolding is_subtype supertypes heads object_class library_class
arrays_with_their_elements = refl

no_array_below_an_element : is_subtype heads (array 1) text ≡ false
unfolding is_subtype supertypes heads object_class library_class
no_array_below_an_element = refl

arrays_below_object : is_subtype heads ints object_type ≡ true
unfolding is_subtype supertypes heads object_class library_class
arrays_below_object = refl

arrays_of_one_primitive : is_subtype heads ints ints ≡ true
unfolding is_subtype supertypes heads object_class library_class
arrays_of_one_primitive = refl

no_wider_elements : is_subtype heads ints (plain base.Long 1) ≡ false
unfolding is_subtype supertypes heads object_class library_class
no_wider_elements = refl

arrays_of_arrays_of_primitives : is_subtype heads (plain base.Int 2) (array 0) ≡ true
unfolding is_subtype supertypes heads object_class library_class
arrays_of_arrays_of_primitives = refl

no_primitive : is_subtype heads (plain base.Int 0) (plain base.Int 0) ≡ false
unfolding is_subtype supertypes heads object_class library_class
no_primitive = refl

null_below_arrays : is_subtype heads (null_type 0) ints ≡ true
unfolding is_subtype supertypes heads object_class library_class
null_below_arrays = refl

null_below_variables : is_subtype heads (null_type 0) (variable 5 1) ≡ true
unfolding is_subtype supertypes heads object_class library_class
null_below_variables = refl

no_null_below_primitives : is_subtype heads (null_type 0) (plain base.Int 0) ≡ false
unfolding is_subtype supertypes heads object_class library_class
no_null_below_primitives = refl

-- ---- the types above a type

itself_first : supertypes heads (of 4 []) ≡ of 4 [] ∷ of 3 (text ∷ []) ∷ object_type ∷ []
unfolding supertypes heads object_class library_class
itself_first = refl

from_variable_to_variable : supertypes heads (variable 5 1) ≡ variable 5 1 ∷ variable 5 0 ∷ object_type ∷ []
unfolding supertypes heads object_class library_class
from_variable_to_variable = refl

-- ---- arguments put in, and erasure

an_array_of_arrays : substituted 3 (source_types (array 1 ∷ [])) (of_variable 3 0 1) ≡ of_class 1 no_source_types 2
an_array_of_arrays = refl

within_arguments : substituted 3 (source_types (text ∷ [])) (of 2 (variable 3 0 ∷ [])) ≡ of 2 (text ∷ [])
within_arguments = refl

of_another_class : substituted 3 (source_types (text ∷ [])) (variable 5 0) ≡ variable 5 0
of_another_class = refl

without_arguments : erased heads (of_class 3 (source_types (text ∷ [])) 2) ≡ type (base.Class (class_numbered 3)) 2
unfolding erased
without_arguments = refl

to_its_bound : erased heads (of_variable 3 0 1) ≡ type (base.Class (class_numbered 2)) 1
unfolding erased heads
to_its_bound = refl

on_to_object : erased heads (variable 5 1) ≡ type (base.Class (class_numbered 0)) 0
unfolding erased heads object_class library_class
on_to_object = refl
