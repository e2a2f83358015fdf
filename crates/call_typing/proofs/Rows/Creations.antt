-- Worked rows of new objects.
use Rattle.std.proofs.Common.{◌≡◌, refl}
use Rattle.std.specs.Prelude.{ℕ, List, [], ◌∷◌}
use Rattle.je_core.specs.declared.program.Access.TheVariants as access
use Rattle.je_core.specs.Core.{Core, New, cores, node}
use Rattle.je_classes.specs.Hierarchy.{object_class, library_class}
use Rattle.je_scopes.specs.Settled.{settled}
use Rattle.je_scopes.specs.Sites.{constructor_arguments, instance, static}
use Rattle.je_scopes.specs.SourceTypes.{SourceType, of_variable}
use Rattle.source_types.specs.Erasure.{erased, class_numbered}
use Rattle.source_types.specs.Subtypes.{is_subtype}
use Rattle.source_types.specs.Supertypes.{supertypes}
use Rattle.declarations.specs.Declarations.{DeclaredMethod}
use Rattle.je_typing.specs.declared.fault.TypeRule.TheVariants.{AbstractNew, AmbiguousMethod, NoConstructor, NoEnclosing, NotAccessible}
use Rattle.je_typing.specs.Conversions.{converted}
use Rattle.je_typing.specs.Judged.{Judged, bind, breaks, check, gives, need}
use Rattle.je_typing.specs.Typed.{TypedNode}
use Rattle.name_typing.specs.Program.{Place}
use Rattle.call_typing.specs.Constructors.{constructor_for, constructors_in}
use Rattle.call_typing.specs.Creations.{anonymous_creation, creation}
use Rattle.call_typing.specs.Overloads.{choice, chosen}
use Rattle.name_typing.proofs.Rows.Parts.{at, whole, of, class_ty, string}
use Rattle.call_typing.proofs.Rows.Parts.{constructor, heads, in_body, in_member, null, plainly, program, source, text}

-- `new A(..)` in B
abbrev new_a : List DeclaredMethod → List TypedNode → Judged TypedNode
new_a ms args = creation (program (ms ∷ [])) (in_body 3 static) (of 2 []) (at 5) (at 6) whole args []

abbrev made : ℕ → ℕ → List TypedNode → Judged TypedNode
made c place args = gives (record { node = node (New (class_numbered c) place (cores (nodes args)) [] (at 5)) (class_ty c) whole (at 6); type = of c [] })
  where
    nodes : List TypedNode → List Core
    nodes [] = []
    nodes (a ∷ rest) = a.node ∷ nodes rest

-- behind its methods
default_constructor : new_a (plainly 0 [] string ∷ []) [] ≡ made 2 1 []
unfolding creation anonymous_creation bind check need choice chosen converted constructor_for constructors_in program heads source erased is_subtype supertypes settled object_class library_class
default_constructor = refl

more_for_the_default : new_a [] (text ∷ []) ≡ breaks NoConstructor (at 6)
unfolding creation anonymous_creation bind check need choice chosen converted constructor_for constructors_in program heads source erased is_subtype supertypes settled object_class library_class
more_for_the_default = refl

declared : new_a (constructor (string ∷ []) access.Package ∷ []) (text ∷ []) ≡ made 2 0 (text ∷ [])
unfolding creation anonymous_creation bind check need choice chosen converted constructor_for constructors_in program heads source erased is_subtype supertypes settled object_class library_class
declared = refl

no_default_beside : new_a (constructor (string ∷ []) access.Package ∷ []) [] ≡ breaks NoConstructor (at 6)
unfolding creation anonymous_creation bind check need choice chosen converted constructor_for constructors_in program heads source erased is_subtype supertypes settled object_class library_class
no_default_beside = refl

private_elsewhere : new_a (constructor [] access.Private ∷ []) [] ≡ breaks NotAccessible (at 6)
unfolding creation anonymous_creation bind check need choice chosen converted constructor_for constructors_in program heads source erased is_subtype supertypes settled object_class library_class
private_elsewhere = refl

-- in D, which stands in A
private_at_home : creation (program ((constructor [] access.Private ∷ []) ∷ [])) (in_member 9 instance instance) (of 2 []) (at 5) (at 6) whole [] []
    ≡ made 2 0 []
unfolding creation anonymous_creation bind check need choice chosen converted constructor_for constructors_in program heads source erased is_subtype supertypes settled object_class library_class
private_at_home = refl

two_for_null : new_a (constructor (string ∷ []) access.Package ∷ constructor (of 3 [] ∷ []) access.Package ∷ []) (null ∷ [])
    ≡ breaks AmbiguousMethod (at 6)
unfolding creation anonymous_creation bind check need choice chosen converted constructor_for constructors_in program heads source erased is_subtype supertypes settled object_class library_class
two_for_null = refl

one_for_a_text : new_a (constructor (string ∷ []) access.Package ∷ constructor (of 3 [] ∷ []) access.Package ∷ []) (text ∷ [])
    ≡ made 2 0 (text ∷ [])
unfolding creation anonymous_creation bind check need choice chosen converted constructor_for constructors_in program heads source erased is_subtype supertypes settled object_class library_class
one_for_a_text = refl

-- ---- what has no objects of its own: in A

abbrev in_a : SourceType → List TypedNode → Judged TypedNode
in_a s args = creation (program []) (in_body 2 instance) s (at 5) (at 6) whole args []

of_a_class : in_a (of 3 []) [] ≡ made 3 0 []
unfolding creation anonymous_creation bind check need choice chosen converted constructor_for constructors_in program heads source erased is_subtype supertypes settled object_class library_class
of_a_class = refl

of_an_abstract_class : in_a (of 8 []) [] ≡ breaks AbstractNew (at 6)
unfolding creation anonymous_creation bind check need choice chosen converted constructor_for constructors_in program heads source erased is_subtype supertypes settled object_class library_class
of_an_abstract_class = refl

constructor_first : in_a (of 8 []) (text ∷ []) ≡ breaks NoConstructor (at 6)
unfolding creation anonymous_creation bind check need choice chosen converted constructor_for constructors_in program heads source erased is_subtype supertypes settled object_class library_class
constructor_first = refl

of_an_interface : in_a (of 5 []) (text ∷ []) ≡ breaks AbstractNew (at 6)
unfolding creation anonymous_creation bind check need choice chosen converted constructor_for constructors_in program heads source erased is_subtype supertypes settled object_class library_class
of_an_interface = refl

of_an_enum : in_a (of 14 []) (text ∷ []) ≡ breaks AbstractNew (at 6)
unfolding creation anonymous_creation bind check need choice chosen converted constructor_for constructors_in program heads source erased is_subtype supertypes settled object_class library_class
of_an_enum = refl

of_a_variable : in_a (of_variable 13 0 0) (text ∷ []) ≡ breaks AbstractNew (at 6)
unfolding creation anonymous_creation bind check need choice chosen converted constructor_for constructors_in program heads source erased is_subtype supertypes settled object_class library_class
of_a_variable = refl

-- a class of the library without constructors
of_the_library : in_a (of 1 []) [] ≡ breaks NoConstructor (at 6)
unfolding creation anonymous_creation bind check need choice chosen converted constructor_for constructors_in program heads source erased is_subtype supertypes settled object_class library_class
of_the_library = refl

-- ---- `new D()`, of an inner class of A: at a place with an instance of A, or of a class below it

abbrev new_d : Place → Judged TypedNode
new_d place = creation (program []) place (of 9 []) (at 5) (at 6) whole [] []

in_its_class : new_d (in_body 2 instance) ≡ made 9 0 []
unfolding creation anonymous_creation bind check need choice chosen converted constructor_for constructors_in program heads source erased is_subtype supertypes settled object_class library_class
in_its_class = refl

in_a_static_method : new_d (in_body 2 static) ≡ breaks NoEnclosing (at 6)
unfolding creation anonymous_creation bind check need choice chosen converted constructor_for constructors_in program heads source erased is_subtype supertypes settled object_class library_class
in_a_static_method = refl

in_constructor_arguments : new_d (in_body 2 constructor_arguments) ≡ breaks NoEnclosing (at 6)
unfolding creation anonymous_creation bind check need choice chosen converted constructor_for constructors_in program heads source erased is_subtype supertypes settled object_class library_class
in_constructor_arguments = refl

below_its_class : new_d (in_body 3 instance) ≡ made 9 0 []
unfolding creation anonymous_creation bind check need choice chosen converted constructor_for constructors_in program heads source erased is_subtype supertypes settled object_class library_class
below_its_class = refl

elsewhere : new_d (in_body 8 static) ≡ breaks NoEnclosing (at 6)
unfolding creation anonymous_creation bind check need choice chosen converted constructor_for constructors_in program heads source erased is_subtype supertypes settled object_class library_class
elsewhere = refl

in_no_class_below : new_d (in_body 4 instance) ≡ breaks NoEnclosing (at 6)
unfolding creation anonymous_creation bind check need choice chosen converted constructor_for constructors_in program heads source erased is_subtype supertypes settled object_class library_class
in_no_class_below = refl

in_an_inner_class : new_d (in_member 9 instance instance) ≡ made 9 0 []
unfolding creation anonymous_creation bind check need choice chosen converted constructor_for constructors_in program heads source erased is_subtype supertypes settled object_class library_class
in_an_inner_class = refl

in_a_static_member : new_d (in_member 10 instance static) ≡ breaks NoEnclosing (at 6)
unfolding creation anonymous_creation bind check need choice chosen converted constructor_for constructors_in program heads source erased is_subtype supertypes settled object_class library_class
in_a_static_member = refl

a_static_one_elsewhere : creation (program []) (in_body 4 static) (of 10 []) (at 5) (at 6) whole [] []
    ≡ made 10 0 []
unfolding creation anonymous_creation bind check need choice chosen converted constructor_for constructors_in program heads source erased is_subtype supertypes settled object_class library_class
a_static_one_elsewhere = refl

constructor_before_instance : creation (program []) (in_body 2 static) (of 9 []) (at 5) (at 6) whole (text ∷ []) []
    ≡ breaks NoConstructor (at 6)
unfolding creation anonymous_creation bind check need choice chosen converted constructor_for constructors_in program heads source erased is_subtype supertypes settled object_class library_class
constructor_before_instance = refl

abstract_before_instance : creation (program []) (in_body 2 static) (of 11 []) (at 5) (at 6) whole [] []
    ≡ breaks AbstractNew (at 6)
unfolding creation anonymous_creation bind check need choice chosen converted constructor_for constructors_in program heads source erased is_subtype supertypes settled object_class library_class
abstract_before_instance = refl

-- ---- `new I(..) { .. }` and `new A(..) { .. }` in A

abbrev anonymous : List DeclaredMethod → SourceType → List TypedNode → Judged TypedNode
anonymous ms s args = anonymous_creation (program (ms ∷ [])) (in_body 2 instance) 15 s (at 5) (at 6) whole args []

over_an_interface : anonymous [] (of 5 []) [] ≡ made 15 0 []
unfolding creation anonymous_creation bind check need choice chosen converted constructor_for constructors_in program heads source erased is_subtype supertypes settled object_class library_class
over_an_interface = refl

more_for_an_interface : anonymous [] (of 5 []) (text ∷ []) ≡ breaks NoConstructor (at 6)
unfolding creation anonymous_creation bind check need choice chosen converted constructor_for constructors_in program heads source erased is_subtype supertypes settled object_class library_class
more_for_an_interface = refl

over_an_abstract_class : anonymous [] (of 8 []) [] ≡ made 15 0 []
unfolding creation anonymous_creation bind check need choice chosen converted constructor_for constructors_in program heads source erased is_subtype supertypes settled object_class library_class
over_an_abstract_class = refl

handed_on : anonymous (constructor (string ∷ []) access.Package ∷ []) (of 2 []) (text ∷ []) ≡ made 15 0 (text ∷ [])
unfolding creation anonymous_creation bind check need choice chosen converted constructor_for constructors_in program heads source erased is_subtype supertypes settled object_class library_class
handed_on = refl

over_a_variable : anonymous [] (of_variable 13 0 0) [] ≡ breaks AbstractNew (at 6)
unfolding creation anonymous_creation bind check need choice chosen converted constructor_for constructors_in program heads source erased is_subtype supertypes settled object_class library_class
over_a_variable = refl

over_an_inner_class : anonymous_creation (program []) (in_body 2 static) 15 (of 9 []) (at 5) (at 6) whole [] []
    ≡ breaks NoEnclosing (at 6)
unfolding creation anonymous_creation bind check need choice chosen converted constructor_for constructors_in program heads source erased is_subtype supertypes settled object_class library_class
over_an_inner_class = refl
