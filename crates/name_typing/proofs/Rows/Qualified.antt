-- Worked rows of names before a point, and behind one.
use Rattle.std.proofs.Common.{◌≡◌, refl}
use Rattle.std.specs.Prelude.{[], pos}
use Rattle.je_core.specs.declared.types.Base.TheVariants as base
use Rattle.je_core.specs.declared.value.Value.TheVariants as value
use Rattle.je_core.specs.Core.{Const, Field, Static, node, no_core}
use Rattle.je_classes.specs.Hierarchy.{object_class, library_class}
use Rattle.je_scopes.specs.Settled.{settled}
use Rattle.je_scopes.specs.Sites.{instance, static}
use Rattle.source_types.specs.Erasure.{erased, class_numbered}
use Rattle.source_types.specs.Supertypes.{supertypes}
use Rattle.je_typing.specs.declared.fault.TypeRule.TheVariants.{StaticContext, UnknownField, UnknownName}
use Rattle.je_typing.specs.Judged.{bind, breaks, check, gives, need}
use Rattle.name_typing.specs.Accesses.{found_field, static_field}
use Rattle.name_typing.specs.Fields.{find_field}
use Rattle.name_typing.specs.Qualified.{a_beginning, a_class, a_value, assigned_select, name_before, select, select_before}
use Rattle.name_typing.specs.Variables.{not_forward, simple_name, taken, updated_name, variable_named, variable_node}
use Rattle.name_typing.proofs.Rows.Parts.{at, whole, id, ty, int, int_node, in_body, this_of, heads, classes, source, program}

a_variable_first : name_before program (in_body 2 instance) (id 0) ≡ gives (a_value (int_node (Field (this_of 2 0) (class_numbered 2) 0) 0))
unfolding name_before simple_name updated_name variable_node not_forward variable_named taken bind check need find_field erased supertypes program source heads classes settled object_class library_class
a_variable_first = refl

a_class_next : name_before program (in_body 4 static) (id 8) ≡ gives (a_class 2)
unfolding name_before variable_named bind check need find_field erased supertypes program source heads classes settled object_class library_class
a_class_next = refl

neither : name_before program (in_body 4 static) (id 7) ≡ gives (a_beginning (id 7) [])
unfolding name_before variable_named bind check need find_field erased supertypes program source heads classes settled object_class library_class
neither = refl

-- ---- A.s, A.x, A.D, A.w

static_of_a_class : select program (in_body 4 static) (id 1) whole (a_class 2)
    ≡ gives (record { node = node (Static no_core (class_numbered 2) 1) (ty base.Int) whole (at 1); type = int })
unfolding select assigned_select static_field found_field taken bind check need find_field erased supertypes program source heads classes settled object_class library_class
static_of_a_class = refl

constant_of_a_class : select program (in_body 4 static) (id 3) whole (a_class 2)
    ≡ gives (record { node = node (Const (value.Int (pos 7)) []) (ty base.Int) whole (at 3); type = int })
unfolding select assigned_select static_field found_field taken bind check need find_field erased supertypes program source heads classes settled object_class library_class
constant_of_a_class = refl

instance_of_a_class : select program (in_body 4 static) (id 0) whole (a_class 2) ≡ breaks StaticContext (at 0)
unfolding select assigned_select static_field found_field taken bind check need find_field erased supertypes program source heads classes settled object_class library_class
instance_of_a_class = refl

member_before_a_point : select_before program (in_body 4 static) (id 9) whole (a_class 2) ≡ gives (a_class 3)
unfolding select_before static_field found_field bind check need find_field erased supertypes program source heads classes settled object_class library_class
member_before_a_point = refl

member_as_a_value : select program (in_body 4 static) (id 9) whole (a_class 2) ≡ breaks UnknownField (at 9)
unfolding select assigned_select static_field found_field taken bind check need find_field erased supertypes program source heads classes settled object_class library_class
member_as_a_value = refl

nothing_of_a_class : select_before program (in_body 4 static) (id 7) whole (a_class 2) ≡ breaks UnknownField (at 7)
unfolding select_before static_field found_field bind check need find_field erased supertypes program source heads classes settled object_class library_class
nothing_of_a_class = refl

-- ---- w.x, where w means nothing: the fault stands at the first name

behind_nothing : select program (in_body 4 static) (id 0) whole (a_beginning (id 7) []) ≡ breaks UnknownName (at 7)
unfolding select assigned_select taken bind program heads object_class library_class
behind_nothing = refl
