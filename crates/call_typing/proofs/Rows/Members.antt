-- Worked rows of calls by a simple name, and by `super`.
use Rattle.std.proofs.Common.{◌≡◌, refl}
use Rattle.std.specs.Prelude.{List, [], ◌∷◌}
use Rattle.je_core.specs.declared.types.Base.TheVariants as base
use Rattle.je_core.specs.Core.{CallExact, CallVirtual, Field, a_core, cores, no_core, node}
use Rattle.je_classes.specs.Hierarchy.{object_class, library_class}
use Rattle.je_scopes.specs.Sites.{Context, constructor_arguments, instance, static}
use Rattle.source_types.specs.Erasure.{erased, class_numbered}
use Rattle.source_types.specs.Subtypes.{is_subtype}
use Rattle.source_types.specs.Supertypes.{supertypes}
use Rattle.declarations.specs.Declarations.{DeclaredMethod}
use Rattle.je_typing.specs.declared.fault.TypeRule.TheVariants.{BadSuperCall, NoMethod, StaticContext}
use Rattle.je_typing.specs.Conversions.{converted}
use Rattle.je_typing.specs.Judged.{Judged, bind, breaks, check, gives, need}
use Rattle.je_typing.specs.Typed.{TypedNode}
use Rattle.name_typing.specs.Variables.{taken}
use Rattle.overriding.specs.Methods.{inherited}
use Rattle.call_typing.specs.Calls.{simple_call, super_call}
use Rattle.call_typing.specs.Methods.{candidates}
use Rattle.call_typing.specs.Overloads.{choice, chosen}
use Rattle.name_typing.proofs.Rows.Parts.{at, whole, id, ty, class_ty, int, this_of}
use Rattle.call_typing.proofs.Rows.Parts.{abstractly, heads, in_body, in_member, number, plainly, privately, program, source, statically}

-- `f()` in A
abbrev in_a : DeclaredMethod → Context → Judged TypedNode
in_a m context = simple_call (program ((m ∷ []) ∷ [])) (in_body 2 context) (id 0) whole []

on_this : in_a (plainly 0 [] int) instance
    ≡ gives (record { node = node (CallVirtual (this_of 2 0) (class_numbered 2) 0 (cores [])) (ty base.Int) whole (at 0); type = int })
unfolding simple_call super_call bind check need candidates choice chosen taken converted program heads source inherited erased is_subtype supertypes object_class library_class
on_this = refl

no_object : in_a (plainly 0 [] int) static ≡ breaks StaticContext (at 0)
unfolding simple_call super_call bind check need candidates choice chosen taken converted program heads source inherited erased is_subtype supertypes object_class library_class
no_object = refl

no_object_yet : in_a (plainly 0 [] int) constructor_arguments ≡ breaks StaticContext (at 0)
unfolding simple_call super_call bind check need candidates choice chosen taken converted program heads source inherited erased is_subtype supertypes object_class library_class
no_object_yet = refl

static_without_object : in_a (statically 0 [] int) static
    ≡ gives (record { node = node (CallExact no_core (class_numbered 2) 0 (cores [])) (ty base.Int) whole (at 0); type = int })
unfolding simple_call super_call bind check need candidates choice chosen taken converted program heads source inherited erased is_subtype supertypes object_class library_class
static_without_object = refl

private_on_this : in_a (privately 0 [] int) instance
    ≡ gives (record { node = node (CallExact (a_core (this_of 2 0)) (class_numbered 2) 0 (cores [])) (ty base.Int) whole (at 0); type = int })
unfolding simple_call super_call bind check need candidates choice chosen taken converted program heads source inherited erased is_subtype supertypes object_class library_class
private_on_this = refl

no_such_method : in_a (plainly 1 [] int) instance ≡ breaks NoMethod (at 0)
unfolding simple_call super_call bind check need candidates choice chosen taken converted program heads source inherited erased is_subtype supertypes object_class library_class
no_such_method = refl

-- ---- `f()` in D, which stands in A: the innermost class that has a method of the name

abbrev in_d : List DeclaredMethod → List DeclaredMethod → Context → Context → List TypedNode → Judged TypedNode
in_d of_a of_d context round args = simple_call (program (of_a ∷ [] ∷ [] ∷ [] ∷ [] ∷ [] ∷ [] ∷ of_d ∷ [])) (in_member 9 context round) (id 0) whole args

of_the_class_outside : in_d (plainly 0 [] int ∷ []) [] instance instance []
    ≡ gives (record { node = node (CallVirtual (node (Field (this_of 9 0) (class_numbered 9) 0) (class_ty 2) (at 0) (at 0)) (class_numbered 2) 0 (cores [])) (ty base.Int) whole (at 0); type = int })
unfolding simple_call super_call bind check need candidates choice chosen taken converted program heads source inherited erased is_subtype supertypes object_class library_class
of_the_class_outside = refl

not_from_a_static_class : in_d (plainly 0 [] int ∷ []) [] instance static [] ≡ breaks StaticContext (at 0)
unfolding simple_call super_call bind check need candidates choice chosen taken converted program heads source inherited erased is_subtype supertypes object_class library_class
not_from_a_static_class = refl

hidden_by_a_nearer_one : in_d (plainly 0 [] int ∷ []) (plainly 0 (int ∷ []) int ∷ []) instance instance []
    ≡ breaks NoMethod (at 0)
unfolding simple_call super_call bind check need candidates choice chosen taken converted program heads source inherited erased is_subtype supertypes object_class library_class
hidden_by_a_nearer_one = refl

the_nearer_one : in_d (plainly 0 [] int ∷ []) (plainly 0 (int ∷ []) int ∷ []) instance instance (number ∷ [])
    ≡ gives (record { node = node (CallVirtual (this_of 9 0) (class_numbered 9) 0 (cores (number.node ∷ []))) (ty base.Int) whole (at 0); type = int })
unfolding simple_call super_call bind check need candidates choice chosen taken converted program heads source inherited erased is_subtype supertypes object_class library_class
the_nearer_one = refl

-- a private method of A in B, which doesn't inherit it
private_above : simple_call (program ((privately 0 [] int ∷ []) ∷ [])) (in_body 3 instance) (id 0) whole []
    ≡ breaks NoMethod (at 0)
unfolding simple_call super_call bind check need candidates choice chosen taken converted program heads source inherited erased is_subtype supertypes object_class library_class
private_above = refl

inherited_one : simple_call (program ((plainly 0 [] int ∷ []) ∷ [])) (in_body 3 instance) (id 0) whole []
    ≡ gives (record { node = node (CallVirtual (this_of 3 0) (class_numbered 2) 0 (cores [])) (ty base.Int) whole (at 0); type = int })
unfolding simple_call super_call bind check need candidates choice chosen taken converted program heads source inherited erased is_subtype supertypes object_class library_class
inherited_one = refl

-- ---- `super.f()` in B, which overrides it

abbrev by_super : DeclaredMethod → Context → Judged TypedNode
by_super m context = super_call (program ((m ∷ []) ∷ (plainly 0 [] int ∷ []) ∷ [])) (in_body 3 context) (at 5) (id 0) whole []

the_one_above : by_super (plainly 0 [] int) instance
    ≡ gives (record { node = node (CallExact (a_core (this_of 3 0)) (class_numbered 2) 0 (cores [])) (ty base.Int) whole (at 0); type = int })
unfolding simple_call super_call bind check need candidates choice chosen taken converted program heads source inherited erased is_subtype supertypes object_class library_class
the_one_above = refl

static_above : by_super (statically 0 [] int) instance
    ≡ gives (record { node = node (CallExact (a_core (this_of 3 0)) (class_numbered 2) 0 (cores [])) (ty base.Int) whole (at 0); type = int })
unfolding simple_call super_call bind check need candidates choice chosen taken converted program heads source inherited erased is_subtype supertypes object_class library_class
static_above = refl

abstract_above : by_super (abstractly 0 [] int) instance ≡ breaks BadSuperCall (at 0)
unfolding simple_call super_call bind check need candidates choice chosen taken converted program heads source inherited erased is_subtype supertypes object_class library_class
abstract_above = refl

none_above : by_super (plainly 1 [] int) instance ≡ breaks NoMethod (at 0)
unfolding simple_call super_call bind check need candidates choice chosen taken converted program heads source inherited erased is_subtype supertypes object_class library_class
none_above = refl

super_without_object : by_super (plainly 0 [] int) static ≡ breaks StaticContext (at 5)
unfolding simple_call super_call bind check need candidates choice chosen taken converted program heads source inherited erased is_subtype supertypes object_class library_class
super_without_object = refl
