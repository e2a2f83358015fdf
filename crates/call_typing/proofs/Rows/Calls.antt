-- Worked rows of calls on values and on classes.
use Rattle.std.proofs.Common.{◌≡◌, refl}
use Rattle.std.specs.Prelude.{List, [], ◌∷◌}
use Rattle.je_core.specs.declared.types.Base.TheVariants as base
use Rattle.je_core.specs.Core.{CallExact, CallVirtual, Cast, Convert, a_core, cores, no_core, node}
use Rattle.je_classes.specs.Hierarchy.{object_class, library_class}
use Rattle.je_scopes.specs.Sites.{static}
use Rattle.je_scopes.specs.SourceTypes.{SourceType, plain, of_variable}
use Rattle.source_types.specs.Erasure.{erased, class_numbered}
use Rattle.source_types.specs.Heads.{object_type}
use Rattle.source_types.specs.Subtypes.{is_subtype}
use Rattle.source_types.specs.Supertypes.{supertypes}
use Rattle.declarations.specs.Declarations.{DeclaredMethod}
use Rattle.je_typing.specs.declared.fault.TypeRule.TheVariants.{AmbiguousMethod, BadOperand, NoMethod, NotAccessible, StaticContext, UnknownName, VoidValue}
use Rattle.je_typing.specs.Conversions.{converted}
use Rattle.je_typing.specs.Judged.{Judged, bind, breaks, check, gives, need}
use Rattle.je_typing.specs.Typed.{TypedNode}
use Rattle.name_typing.specs.Qualified.{a_beginning, a_class}
use Rattle.name_typing.specs.Variables.{taken}
use Rattle.overriding.specs.Methods.{inherited}
use Rattle.call_typing.specs.Calls.{call_on, call_on_class, call_on_value, on_class, on_value, receiver, used}
use Rattle.call_typing.specs.Methods.{candidates}
use Rattle.call_typing.specs.Overloads.{choice, chosen}
use Rattle.name_typing.proofs.Rows.Parts.{at, whole, id, of, ty, class_ty, int, string}
use Rattle.call_typing.proofs.Rows.Parts.{abstractly, heads, in_body, long, null, number, object, plainly, privately, program, source, statically, t, text, value, void}

-- `f` of A, called in B
abbrev on_a : List DeclaredMethod → List TypedNode → Judged TypedNode
on_a ms args = call_on (program (ms ∷ [])) (in_body 3 static) (id 0) whole args (on_value (object 2))

abbrev of_a : List DeclaredMethod → List TypedNode → Judged TypedNode
of_a ms args = call_on (program (ms ∷ [])) (in_body 3 static) (id 0) whole args (on_class 2)

by_the_object : on_a (plainly 0 [] int ∷ []) []
    ≡ gives (record { node = node (CallVirtual (object 2).node (class_numbered 2) 0 (cores [])) (ty base.Int) whole (at 0); type = int })
unfolding call_on call_on_value call_on_class bind check need candidates choice chosen taken converted program heads source inherited erased is_subtype supertypes object_class library_class
by_the_object = refl

an_abstract_one : on_a (abstractly 0 [] int ∷ []) []
    ≡ gives (record { node = node (CallVirtual (object 2).node (class_numbered 2) 0 (cores [])) (ty base.Int) whole (at 0); type = int })
unfolding call_on call_on_value call_on_class bind check need candidates choice chosen taken converted program heads source inherited erased is_subtype supertypes object_class library_class
an_abstract_one = refl

no_such_method : on_a (plainly 1 [] int ∷ []) [] ≡ breaks NoMethod (at 0)
unfolding call_on call_on_value call_on_class bind check need candidates choice chosen taken converted program heads source inherited erased is_subtype supertypes object_class library_class
no_such_method = refl

private_elsewhere : on_a (privately 0 [] int ∷ []) [] ≡ breaks NotAccessible (at 0)
unfolding call_on call_on_value call_on_class bind check need candidates choice chosen taken converted program heads source inherited erased is_subtype supertypes object_class library_class
private_elsewhere = refl

several : on_a (plainly 0 (of 2 [] ∷ []) int ∷ plainly 0 (string ∷ []) int ∷ []) (null ∷ [])
    ≡ breaks AmbiguousMethod (at 0)
unfolding call_on call_on_value call_on_class bind check need candidates choice chosen taken converted program heads source inherited erased is_subtype supertypes object_class library_class
several = refl

converted_argument : on_a (plainly 0 (long ∷ int ∷ []) int ∷ []) (number ∷ number ∷ [])
    ≡ gives (record { node = node (CallVirtual (object 2).node (class_numbered 2) 0 (cores (node (Convert number.node) (ty base.Long) (at 0) (at 0) ∷ number.node ∷ []))) (ty base.Int) whole (at 0); type = int })
unfolding call_on call_on_value call_on_class bind check need candidates choice chosen taken converted program heads source inherited erased is_subtype supertypes object_class library_class
converted_argument = refl

-- what stands before the point is evaluated
static_on_a_value : on_a (statically 0 [] int ∷ []) []
    ≡ gives (record { node = node (CallExact (a_core (object 2).node) (class_numbered 2) 0 (cores [])) (ty base.Int) whole (at 0); type = int })
unfolding call_on call_on_value call_on_class bind check need candidates choice chosen taken converted program heads source inherited erased is_subtype supertypes object_class library_class
static_on_a_value = refl

static_of_a_class : of_a (statically 0 [] int ∷ []) []
    ≡ gives (record { node = node (CallExact no_core (class_numbered 2) 0 (cores [])) (ty base.Int) whole (at 0); type = int })
unfolding call_on call_on_value call_on_class bind check need candidates choice chosen taken converted program heads source inherited erased is_subtype supertypes object_class library_class
static_of_a_class = refl

instance_of_a_class : of_a (plainly 0 [] int ∷ []) [] ≡ breaks StaticContext (at 0)
unfolding call_on call_on_value call_on_class bind check need candidates choice chosen taken converted program heads source inherited erased is_subtype supertypes object_class library_class
instance_of_a_class = refl

none_of_a_class : of_a (plainly 0 [] int ∷ []) (number ∷ []) ≡ breaks NoMethod (at 0)
unfolding call_on call_on_value call_on_class bind check need candidates choice chosen taken converted program heads source inherited erased is_subtype supertypes object_class library_class
none_of_a_class = refl

-- in D, which stands in A
private_at_home : call_on_value (program ((privately 0 [] int ∷ []) ∷ [])) (in_body 9 static) (id 0) whole [] (object 2)
    ≡ gives (record { node = node (CallExact (a_core (object 2).node) (class_numbered 2) 0 (cores [])) (ty base.Int) whole (at 0); type = int })
unfolding call_on call_on_value call_on_class bind check need candidates choice chosen taken converted program heads source inherited erased is_subtype supertypes object_class library_class
private_at_home = refl

on_a_number : call_on_value (program []) (in_body 3 static) (id 7) whole (number ∷ []) number
    ≡ breaks BadOperand (at 7)
unfolding call_on call_on_value call_on_class bind check need candidates choice chosen taken converted program heads source inherited erased is_subtype supertypes object_class library_class
on_a_number = refl

on_null : call_on_value (program []) (in_body 3 static) (id 7) whole (number ∷ []) null ≡ breaks BadOperand (at 7)
unfolding call_on call_on_value call_on_class bind check need candidates choice chosen taken converted program heads source inherited erased is_subtype supertypes object_class library_class
on_null = refl

-- ---- what has the methods of Object: a class, an array, an interface, which has them without a body

abbrev equals_on : TypedNode → Judged TypedNode
equals_on on = call_on_value (program ([] ∷ [] ∷ [] ∷ [] ∷ [] ∷ [] ∷ [])) (in_body 3 static) (id 7) whole (text ∷ []) on

abbrev equals_of : TypedNode → Judged TypedNode
equals_of on = gives (record { node = node (CallVirtual on.node object_class 1 (cores (text.node ∷ []))) (ty base.Bool) whole (at 7); type = plain base.Bool 0 })

abbrev numbers : TypedNode
numbers = value (plain base.Int 1) (record { base = base.Int; dims = 1 })

equals_of_a_class : equals_on (object 3) ≡ equals_of (object 3)
unfolding call_on call_on_value call_on_class bind check need candidates choice chosen taken converted program heads source inherited erased is_subtype supertypes object_class library_class
equals_of_a_class = refl

equals_of_an_array : equals_on numbers ≡ equals_of numbers
unfolding call_on call_on_value call_on_class bind check need candidates choice chosen taken converted program heads source inherited erased is_subtype supertypes object_class library_class
equals_of_an_array = refl

equals_of_an_interface : equals_on (object 7) ≡ equals_of (object 7)
unfolding call_on call_on_value call_on_class bind check need candidates choice chosen taken converted program heads source inherited erased is_subtype supertypes object_class library_class
equals_of_an_interface = refl

another_of_an_array : call_on_value (program []) (in_body 3 static) (id 0) whole [] numbers ≡ breaks NoMethod (at 0)
unfolding call_on call_on_value call_on_class bind check need candidates choice chosen taken converted program heads source inherited erased is_subtype supertypes object_class library_class
another_of_an_array = refl

-- ---- `class G<T> { T f() }`: the result of a G<String> stands under a Cast to String

abbrev of_g : SourceType → List DeclaredMethod → List TypedNode → Judged TypedNode
of_g argument ms args = call_on_value (program ([] ∷ [] ∷ ms ∷ [])) (in_body 3 static) (id 0) whole args (value (of 4 (argument ∷ [])) (class_ty 4))

a_string : of_g string (plainly 0 [] t ∷ []) []
    ≡ gives (record { node = node (Cast (node (CallVirtual (value (of 4 (string ∷ [])) (class_ty 4)).node (class_numbered 4) 0 (cores [])) (class_ty 0) whole (at 0))) (class_ty 1) whole (at 0); type = string })
unfolding call_on call_on_value call_on_class bind check need candidates choice chosen taken converted program heads source inherited erased is_subtype supertypes object_class library_class
a_string = refl

an_object : of_g object_type (plainly 0 [] t ∷ []) []
    ≡ gives (record { node = node (CallVirtual (value (of 4 (string ∷ [])) (class_ty 4)).node (class_numbered 4) 0 (cores [])) (class_ty 0) whole (at 0); type = object_type })
unfolding call_on call_on_value call_on_class bind check need candidates choice chosen taken converted program heads source inherited erased is_subtype supertypes object_class library_class
an_object = refl

its_argument : of_g string (plainly 0 (t ∷ []) int ∷ []) (text ∷ [])
    ≡ gives (record { node = node (CallVirtual (value (of 4 (string ∷ [])) (class_ty 4)).node (class_numbered 4) 0 (cores (text.node ∷ []))) (ty base.Int) whole (at 0); type = int })
unfolding call_on call_on_value call_on_class bind check need candidates choice chosen taken converted program heads source inherited erased is_subtype supertypes object_class library_class
its_argument = refl

another_argument : of_g string (plainly 0 (t ∷ []) int ∷ []) (object 2 ∷ []) ≡ breaks NoMethod (at 0)
unfolding call_on call_on_value call_on_class bind check need candidates choice chosen taken converted program heads source inherited erased is_subtype supertypes object_class library_class
another_argument = refl

-- ---- `class K<T extends A>`, on a T: what A has, private ones aside

abbrev of_a_variable : DeclaredMethod → Judged TypedNode
of_a_variable m = call_on_value (program ((m ∷ []) ∷ [])) (in_body 13 static) (id 0) whole [] (value (of_variable 13 0 0) (class_ty 2))

of_its_bound : of_a_variable (plainly 0 [] int)
    ≡ gives (record { node = node (CallVirtual (object 2).node (class_numbered 2) 0 (cores [])) (ty base.Int) whole (at 0); type = int })
unfolding call_on call_on_value call_on_class bind check need candidates choice chosen taken converted program heads source inherited erased is_subtype supertypes object_class library_class
of_its_bound = refl

private_of_its_bound : of_a_variable (privately 0 [] int) ≡ breaks NoMethod (at 0)
unfolding call_on call_on_value call_on_class bind check need candidates choice chosen taken converted program heads source inherited erased is_subtype supertypes object_class library_class
private_of_its_bound = refl

-- ---- what stands before the point, and a call without a result

before_a_point : receiver (a_class 2) ≡ gives (on_class 2)
unfolding receiver used bind check
before_a_point = refl

without_meaning : receiver (a_beginning (id 5) (id 6 ∷ [])) ≡ breaks UnknownName (at 5)
unfolding receiver used bind check
without_meaning = refl

a_result : used number ≡ gives number
unfolding receiver used bind check
a_result = refl

no_result : used (value void (ty base.Void)) ≡ breaks VoidValue (at 0)
unfolding receiver used bind check
no_result = refl
