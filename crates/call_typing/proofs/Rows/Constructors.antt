-- Worked rows of the call at the head of a constructor.
use Rattle.std.proofs.Common.{◌≡◌, refl}
use Rattle.std.specs.Prelude.{ℕ, List, [], ◌∷◌}
use Rattle.je_core.specs.declared.program.Access.TheVariants as access
use Rattle.je_core.specs.declared.types.Base.TheVariants as base
use Rattle.je_core.specs.Core.{CallExact, Core, a_core, cores, node}
use Rattle.je_classes.specs.Hierarchy.{object_class, library_class}
use Rattle.je_scopes.specs.Settled.{settled}
use Rattle.je_scopes.specs.Sites.{constructor_arguments, instance, static}
use Rattle.source_types.specs.Erasure.{erased, class_numbered}
use Rattle.source_types.specs.Subtypes.{is_subtype}
use Rattle.source_types.specs.Supertypes.{supertypes}
use Rattle.declarations.specs.Declarations.{DeclaredMethod}
use Rattle.je_typing.specs.declared.fault.TypeRule.TheVariants.{AmbiguousMethod, NoConstructor, NoEnclosing, NotAccessible}
use Rattle.je_typing.specs.Conversions.{converted}
use Rattle.je_typing.specs.Judged.{Judged, bind, breaks, check, gives, need}
use Rattle.je_typing.specs.Typed.{TypedNode}
use Rattle.name_typing.specs.Program.{Place}
use Rattle.call_typing.specs.Constructors.{constructor_for, constructors_in}
use Rattle.call_typing.specs.Creations.{implicit_constructor_call, own_constructor_call, superclass_constructor_call}
use Rattle.call_typing.specs.Overloads.{choice, chosen}
use Rattle.name_typing.proofs.Rows.Parts.{at, whole, of, ty, string, this_of}
use Rattle.call_typing.proofs.Rows.Parts.{constructor, heads, in_body, in_member, null, program, source, text, void}

-- the call of a constructor at a place of a class, in a class; its arguments are texts
abbrev calls : ℕ → ℕ → ℕ → ℕ → List Core → Judged TypedNode
calls c word d place args =
    gives (record { node = node (CallExact (a_core (this_of c word)) (class_numbered d) place (cores args)) (ty base.Void) whole (at word); type = void })

of_the_same_class : own_constructor_call (program ((constructor [] access.Package ∷ constructor (string ∷ []) access.Private ∷ []) ∷ [])) (in_body 2 constructor_arguments) (at 5) whole (text ∷ [])
    ≡ calls 2 5 2 1 (text.node ∷ [])
unfolding own_constructor_call superclass_constructor_call implicit_constructor_call bind check need choice chosen converted constructor_for constructors_in program heads source erased is_subtype supertypes settled object_class library_class
of_the_same_class = refl

none_of_the_class : own_constructor_call (program ((constructor [] access.Package ∷ []) ∷ [])) (in_body 2 constructor_arguments) (at 5) whole (text ∷ [])
    ≡ breaks NoConstructor (at 5)
unfolding own_constructor_call superclass_constructor_call implicit_constructor_call bind check need choice chosen converted constructor_for constructors_in program heads source erased is_subtype supertypes settled object_class library_class
none_of_the_class = refl

-- ---- `super(..)` in B, which extends A, and the implicit one, which stands at B's name

abbrev to_a : List DeclaredMethod → List TypedNode → Judged TypedNode
to_a ms args = superclass_constructor_call (program (ms ∷ [])) (in_body 3 constructor_arguments) (at 5) whole args

of_the_superclass : to_a (constructor (string ∷ []) access.Package ∷ []) (text ∷ []) ≡ calls 3 5 2 0 (text.node ∷ [])
unfolding own_constructor_call superclass_constructor_call implicit_constructor_call bind check need choice chosen converted constructor_for constructors_in program heads source erased is_subtype supertypes settled object_class library_class
of_the_superclass = refl

default_of_the_superclass : to_a [] [] ≡ calls 3 5 2 0 []
unfolding own_constructor_call superclass_constructor_call implicit_constructor_call bind check need choice chosen converted constructor_for constructors_in program heads source erased is_subtype supertypes settled object_class library_class
default_of_the_superclass = refl

none_of_the_superclass : to_a [] (text ∷ []) ≡ breaks NoConstructor (at 5)
unfolding own_constructor_call superclass_constructor_call implicit_constructor_call bind check need choice chosen converted constructor_for constructors_in program heads source erased is_subtype supertypes settled object_class library_class
none_of_the_superclass = refl

private_of_the_superclass : to_a (constructor [] access.Private ∷ []) [] ≡ breaks NotAccessible (at 5)
unfolding own_constructor_call superclass_constructor_call implicit_constructor_call bind check need choice chosen converted constructor_for constructors_in program heads source erased is_subtype supertypes settled object_class library_class
private_of_the_superclass = refl

two_of_the_superclass : to_a (constructor (string ∷ []) access.Package ∷ constructor (of 3 [] ∷ []) access.Package ∷ []) (null ∷ [])
    ≡ breaks AmbiguousMethod (at 5)
unfolding own_constructor_call superclass_constructor_call implicit_constructor_call bind check need choice chosen converted constructor_for constructors_in program heads source erased is_subtype supertypes settled object_class library_class
two_of_the_superclass = refl

implicit : implicit_constructor_call (program []) (in_body 2 constructor_arguments) (at 3)
    ≡ gives (record { node = node (CallExact (a_core (this_of 2 3)) object_class 0 (cores [])) (ty base.Void) (at 3) (at 3); type = void })
unfolding own_constructor_call superclass_constructor_call implicit_constructor_call bind check need choice chosen converted constructor_for constructors_in program heads source erased is_subtype supertypes settled object_class library_class
implicit = refl

no_implicit : implicit_constructor_call (program ((constructor (string ∷ []) access.Package ∷ []) ∷ [])) (in_body 3 constructor_arguments) (at 3)
    ≡ breaks NoConstructor (at 3)
unfolding own_constructor_call superclass_constructor_call implicit_constructor_call bind check need choice chosen converted constructor_for constructors_in program heads source erased is_subtype supertypes settled object_class library_class
no_implicit = refl

-- ---- of P, which extends D, an inner class of A: in A, in a static class of A, and at the top

abbrev to_d : Place → Judged TypedNode
to_d place = superclass_constructor_call (program []) place (at 5) whole []

inside_its_class : to_d (in_member 12 constructor_arguments instance) ≡ calls 12 5 9 0 []
unfolding own_constructor_call superclass_constructor_call implicit_constructor_call bind check need choice chosen converted constructor_for constructors_in program heads source erased is_subtype supertypes settled object_class library_class
inside_its_class = refl

inside_a_static_member : to_d (in_member 12 constructor_arguments static) ≡ breaks NoEnclosing (at 5)
unfolding own_constructor_call superclass_constructor_call implicit_constructor_call bind check need choice chosen converted constructor_for constructors_in program heads source erased is_subtype supertypes settled object_class library_class
inside_a_static_member = refl

inside_no_class : to_d (in_body 12 constructor_arguments) ≡ breaks NoEnclosing (at 5)
unfolding own_constructor_call superclass_constructor_call implicit_constructor_call bind check need choice chosen converted constructor_for constructors_in program heads source erased is_subtype supertypes settled object_class library_class
inside_no_class = refl
