-- Worked rows of simple names.
use Rattle.std.proofs.Common.{◌≡◌, refl}
use Rattle.std.specs.Prelude.{[], ◌∷◌, true, false, pos}
use Rattle.je_core.specs.declared.value.Value.TheVariants as value
use Rattle.je_core.specs.Core.{Const, Field, Local, Static, node, no_core}
use Rattle.je_classes.specs.Hierarchy.{object_class, library_class}
use Rattle.je_scopes.specs.Sites.{instance, static, constructor_arguments}
use Rattle.source_types.specs.Erasure.{erased, class_numbered}
use Rattle.source_types.specs.Supertypes.{supertypes}
use Rattle.je_typing.specs.declared.fault.TypeRule.TheVariants.{AmbiguousField, ForwardUse, NotFinalCapture, StaticContext, UnknownName}
use Rattle.je_typing.specs.Judged.{bind, breaks, check, gives, need}
use Rattle.name_typing.specs.Fields.{find_field}
use Rattle.name_typing.specs.Instances.{outer_this, this}
use Rattle.name_typing.specs.Variables.{assigned_name, not_forward, simple_name, taken, updated_name, variable_named, variable_node}
use Rattle.name_typing.proofs.Rows.Parts.{at, id, of, class_ty, body, in_body, in_member, in_local_class, in_initializer, local_v, this_of, int_node, heads, classes, source, program}

-- ---- class A { .. x .. }

a_field_here : simple_name program (in_body 2 instance) (id 0) ≡ gives (int_node (Field (this_of 2 0) (class_numbered 2) 0) 0)
unfolding simple_name updated_name variable_node not_forward variable_named taken bind check need find_field erased supertypes program source heads classes object_class library_class
a_field_here = refl

no_object : simple_name program (in_body 2 static) (id 0) ≡ breaks StaticContext (at 0)
unfolding simple_name updated_name variable_node not_forward variable_named taken bind check need find_field erased supertypes program source heads classes object_class library_class
no_object = refl

no_object_yet : simple_name program (in_body 2 constructor_arguments) (id 0) ≡ breaks StaticContext (at 0)
unfolding simple_name updated_name variable_node not_forward variable_named taken bind check need find_field erased supertypes program source heads classes object_class library_class
no_object_yet = refl

static_without_object : simple_name program (in_body 2 static) (id 1) ≡ gives (int_node (Static no_core (class_numbered 2) 1) 1)
unfolding simple_name updated_name variable_node not_forward variable_named taken bind check need find_field erased supertypes program source heads classes object_class library_class
static_without_object = refl

nothing_of_the_name : simple_name program (in_body 2 instance) (id 7) ≡ breaks UnknownName (at 7)
unfolding simple_name updated_name variable_node not_forward variable_named taken bind check need find_field erased supertypes program source heads classes object_class library_class
nothing_of_the_name = refl

-- a private field of A in B
private_above : simple_name program (in_body 4 instance) (id 2) ≡ breaks UnknownName (at 2)
unfolding simple_name updated_name variable_node not_forward variable_named taken bind check need find_field erased supertypes program source heads classes object_class library_class
private_above = refl

inherited_twice : simple_name program (in_body 8 instance) (id 0) ≡ breaks AmbiguousField (at 0)
unfolding simple_name updated_name variable_node not_forward variable_named taken bind check need find_field erased supertypes program source heads classes object_class library_class
inherited_twice = refl

-- a constant variable is its constant, and is assigned as a field
a_constant : simple_name program (in_body 4 static) (id 3) ≡ gives (int_node (Const (value.Int (pos 7)) []) 3)
unfolding simple_name updated_name variable_node not_forward variable_named taken bind check need find_field erased supertypes program source heads classes object_class library_class
a_constant = refl

a_constant_assigned : assigned_name program (in_body 4 static) (id 3) ≡ gives (int_node (Static no_core (class_numbered 2) 3) 3)
unfolding assigned_name variable_node variable_named taken bind check need find_field erased supertypes program source heads classes object_class library_class
a_constant_assigned = refl

-- ---- in D, which stands in A

of_the_class_outside : simple_name program (in_member instance) (id 0)
    ≡ gives (int_node (Field (node (Field (this_of 3 0) (class_numbered 3) 0) (class_ty 2) (at 0) (at 0)) (class_numbered 2) 0) 0)
unfolding simple_name updated_name variable_node not_forward variable_named taken bind check need find_field erased supertypes program source heads classes object_class library_class
of_the_class_outside = refl

not_from_constructor_arguments : simple_name program (in_member constructor_arguments) (id 0) ≡ breaks StaticContext (at 0)
unfolding simple_name updated_name variable_node not_forward variable_named taken bind check need find_field erased supertypes program source heads classes object_class library_class
not_from_constructor_arguments = refl

the_instance_outside : outer_this program (in_member instance) 2 (at 1) (at 0) ≡ gives (record { node = node (Field (this_of 3 0) (class_numbered 3) 0) (class_ty 2) (at 0) (at 0); type = of 2 [] })
unfolding outer_this bind check need program heads object_class library_class
the_instance_outside = refl

not_round_it : outer_this program (in_member instance) 4 (at 1) (at 0) ≡ breaks UnknownName (at 1)
unfolding outer_this bind check need program heads object_class library_class
not_round_it = refl

no_this : this program (in_body 2 static) (at 0) ≡ breaks StaticContext (at 0)
unfolding this bind check program heads object_class library_class
no_this = refl

-- ---- a local of a method, in a class inside

captured : simple_name program (in_local_class true) (id 6) ≡ gives (int_node (Field (this_of 3 6) (class_numbered 3) 1) 6)
unfolding simple_name updated_name variable_node not_forward variable_named taken bind check need find_field erased supertypes program source heads classes object_class library_class
captured = refl

not_final : simple_name program (in_local_class false) (id 6) ≡ breaks NotFinalCapture (at 6)
unfolding simple_name updated_name variable_node not_forward variable_named taken bind check need find_field erased supertypes program source heads classes object_class library_class
not_final = refl

in_its_method : simple_name program (record { here = body 2 static (local_v false ∷ []); round = [] }) (id 6) ≡ gives (int_node (Local 3) 6)
unfolding simple_name updated_name variable_node not_forward variable_named taken bind check need find_field erased supertypes program source heads classes object_class library_class
in_its_method = refl

-- ---- before its declaration, in its own initializer, and behind it

before_its_declaration : simple_name program (in_initializer false instance 0) (id 0) ≡ breaks ForwardUse (at 0)
unfolding simple_name updated_name variable_node not_forward variable_named taken bind check need find_field erased supertypes program source heads classes object_class library_class
before_its_declaration = refl

behind_its_declaration : simple_name program (in_initializer false instance 1) (id 0) ≡ gives (int_node (Field (this_of 2 0) (class_numbered 2) 0) 0)
unfolding simple_name updated_name variable_node not_forward variable_named taken bind check need find_field erased supertypes program source heads classes object_class library_class
behind_its_declaration = refl

-- of the other kind
static_in_an_instance_initializer : simple_name program (in_initializer false instance 0) (id 1) ≡ gives (int_node (Static no_core (class_numbered 2) 1) 1)
unfolding simple_name updated_name variable_node not_forward variable_named taken bind check need find_field erased supertypes program source heads classes object_class library_class
static_in_an_instance_initializer = refl

-- assigned alone
assigned_before : assigned_name program (in_initializer true static 0) (id 1) ≡ gives (int_node (Static no_core (class_numbered 2) 1) 1)
unfolding assigned_name variable_node variable_named taken bind check need find_field erased supertypes program source heads classes object_class library_class
assigned_before = refl

updated_before : updated_name program (in_initializer true static 0) (id 1) ≡ breaks ForwardUse (at 1)
unfolding updated_name variable_node not_forward variable_named taken bind check need find_field erased supertypes program source heads classes object_class library_class
updated_before = refl
