-- Worked rows: a small program, and what its tests and look-ups give.
use Rattle.std.proofs.Common.{◌≡◌, ℕ, List, [], ◌∷◌, map, Option, Some, None, refl}
use Rattle.std.specs.Prelude.{Bool, true, false, pos}
use Rattle.je_base.specs.declared.span.NameId.{NameId}
use Rattle.je_base.specs.declared.span.Span.{Span}
use Rattle.je_core.specs.declared.program.Access.{Access}
use Rattle.je_core.specs.declared.program.Access.TheVariants.{Public, Private, Hidden}
use Rattle.je_core.specs.declared.program.Sort.{Sort}
use Rattle.je_core.specs.declared.program.Sort.TheVariants as sort
use Rattle.je_core.specs.declared.types.Base.{Base}
use Rattle.je_core.specs.declared.types.Base.TheVariants as base
use Rattle.je_core.specs.declared.types.ClassId.{ClassId}
use Rattle.je_core.specs.declared.types.Ty.{Ty}
use Rattle.je_core.specs.declared.value.Value.TheVariants.{Int}
use Rattle.je_core.specs.Core.{CoreField, CoreMethod, CoreClass, CoreProgram}
use Rattle.je_classes.specs.Hierarchy.{is_below, object_class, library_class}
use Rattle.je_classes.specs.Subtypes.{class_type, null_type, array_of, is_subtype}
use Rattle.je_classes.specs.Members.{nothing, one, several, constructor_place}
use Rattle.je_classes.specs.Slots.{slot_fields, fresh_slots, field_slot}
use Rattle.je_classes.specs.Dispatch.{implemented, dispatched}
use Rattle.je_classes.specs.Fields.{find_field}
use Rattle.je_classes.specs.Methods.{methods_named, find_method}

nowhere : Span
nowhere = record { file = 0; start = 0; end = 0 }

abbrev of : Base → Ty
of b = record { base = b; dims = 0 }

abbrev int : Ty
int = of base.Int

abbrev c : ℕ → ClassId
c n = record { 0 = n }

abbrev object : Ty
object = class_type (c 0)

abbrev name : ℕ → NameId
name n = record { 0 = n }

abbrev field : ℕ → Access → Bool → CoreField
field n access is_static = record { name = name n; span = nowhere; ty = int; is_static = is_static; is_final = false; access = access; constant = None }

abbrev method : ℕ → List Ty → Ty → CoreMethod
method n params returns = record {
  name = name n;
  span = nowhere;
  params = params;
  returns = returns;
  flags = record { is_static = false; is_final = false; is_abstract = false; is_native = false; is_finalizer = false; access = Public };
  throws = [];
  locals = [];
  body = None;
}

abbrev abstract : CoreMethod → CoreMethod
abstract m = record m { flags = record m.flags { is_abstract = true } }

abbrev private : CoreMethod → CoreMethod
private m = record m { flags = record m.flags { access = Private } }

abbrev static : CoreMethod → CoreMethod
static m = record m { flags = record m.flags { is_static = true } }

abbrev class : Sort → Option ClassId → List ClassId → List CoreField → List CoreMethod → CoreClass
class s super interfaces fields methods = record {
  name = name 0;
  span = nowhere;
  kind = record { sort = s; is_abstract = false; is_final = false; is_static = false };
  superclass = super;
  interfaces = interfaces;
  heads = [];
  fields = fields;
  initializers = [];
  methods = methods;
  enclosing = None;
  captured = 0;
  within = None;
  nth = 0;
  top = c 0;
  bridges = [];
}

-- Names: 1 new, 2 toString, 3 f, 4 g, 5 x, 6 y, 7 equals.
-- The classes: 0 Object; 1 interface I { Object f(); } 2 interface J { String f(); int x; } 3 interface K extends I, J { };
-- 4 class A { int x; private int y; static int s; private int z; A(); void g(int); void g(long); private int f(int); }
-- 5 class B extends A implements I { int y; B f(); void g(int); int f(int); } 6 class C extends B implements J { };
-- 7 class P extends B with the bridge from B.g(int) to B.f(int).
void : Ty
void = of base.Void

program : CoreProgram
program = record {
  classes =
      class sort.Class None [] [] (method 7 (object ∷ []) (of base.Bool) ∷ method 8 [] int ∷ method 1 [] (of base.Void) ∷ method 2 [] object ∷ []) ∷
      class sort.Interface None [] [] (abstract (method 3 [] object) ∷ []) ∷
      class sort.Interface None [] (field 5 Public true ∷ []) (abstract (method 3 [] (class_type (c 4))) ∷ []) ∷
      class sort.Interface None (c 1 ∷ c 2 ∷ []) [] [] ∷
      class sort.Class (Some (c 0)) [] (field 5 Public false ∷ field 6 Private false ∷ field 9 Public true ∷ field 10 Hidden false ∷ field 11 Private false ∷ [])
      (method 1 [] (of base.Void) ∷ method 4 (int ∷ []) (of base.Void) ∷ method 4 (of base.Long ∷ []) (of base.Void) ∷ private (method 3 (int ∷ []) int) ∷ []) ∷
      class sort.Class (Some (c 4)) (c 1 ∷ []) (field 6 Public false ∷ []) (method 3 [] (class_type (c 5)) ∷ method 4 (int ∷ []) (of base.Void) ∷ method 3 (int ∷ []) int ∷ []) ∷
      class sort.Class (Some (c 5)) (c 2 ∷ []) [] [] ∷
      record (class sort.Class (Some (c 5)) [] [] []) { bridges = record { method = (c 5, 1); by = (c 5, 2) } ∷ [] } ∷ [];
  texts = [];
}

-- ---- numbers

object_is_first : object_class ≡ c 0
unfolding object_class library_class
object_is_first = refl

constructor_is_third : constructor_place ≡ 2
unfolding constructor_place
constructor_is_third = refl

-- ---- which class is below which, and subtypes

through_a_superclass : is_below program (c 6) (c 4) ≡ true
unfolding is_below program
through_a_superclass = refl

through_interfaces : is_below program (c 6) (c 1) ≡ true
unfolding is_below program
through_interfaces = refl

not_upwards : is_below program (c 4) (c 6) ≡ false
unfolding is_below program
not_upwards = refl

an_interface_below_object : is_subtype program (class_type (c 3)) object ≡ true
unfolding is_subtype is_below program object_class library_class
an_interface_below_object = refl

arrays_with_their_elements : is_subtype program (array_of (class_type (c 5))) (array_of (class_type (c 4))) ≡ true
unfolding is_subtype is_below program object_class library_class
arrays_with_their_elements = refl

arrays_of_one_primitive : is_subtype program (array_of int) (array_of int) ≡ true
unfolding is_subtype is_below program object_class library_class
arrays_of_one_primitive = refl

no_wider_elements : is_subtype program (array_of int) (array_of (of base.Long)) ≡ false
unfolding is_subtype is_below program object_class library_class
no_wider_elements = refl

arrays_of_arrays_of_primitives : is_subtype program (array_of (array_of int)) (array_of object) ≡ true
unfolding is_subtype is_below program object_class library_class
arrays_of_arrays_of_primitives = refl

no_primitive : is_subtype program int int ≡ false
unfolding is_subtype is_below program object_class library_class
no_primitive = refl

null_below_arrays : is_subtype program null_type (array_of int) ≡ true
unfolding is_subtype is_below program object_class library_class
null_below_arrays = refl

-- ---- slots

superclass_first : map (λ (f : CoreField). f.name) (slot_fields program (Some (c 5))) ≡ name 5 ∷ name 6 ∷ name 10 ∷ name 11 ∷ name 6 ∷ []
unfolding slot_fields program
superclass_first = refl

defaults : fresh_slots program (c 7) ≡ Some (Int (pos 0) ∷ Int (pos 0) ∷ Int (pos 0) ∷ Int (pos 0) ∷ Int (pos 0) ∷ [])
unfolding slot_fields program
defaults = refl

own_slot_behind_those_above : field_slot program (c 5) 0 ≡ Some 4
unfolding slot_fields program
own_slot_behind_those_above = refl

behind_a_static_field : field_slot program (c 4) 3 ≡ Some 2
unfolding slot_fields program
behind_a_static_field = refl

no_slot_of_a_static_field : field_slot program (c 4) 2 ≡ None
unfolding slot_fields program
no_slot_of_a_static_field = refl

-- ---- fields by name

inherited_field : find_field program (c 5) (name 5) ≡ one (record { class = c 4; at = 0 })
unfolding find_field program
inherited_field = refl

hides_one_above : find_field program (c 6) (name 6) ≡ one (record { class = c 5; at = 0 })
unfolding find_field program
hides_one_above = refl

own_private_field : find_field program (c 4) (name 6) ≡ one (record { class = c 4; at = 1 })
unfolding find_field program
own_private_field = refl

no_private_field_above : find_field program (c 5) (name 11) ≡ nothing
unfolding find_field program
no_private_field_above = refl

two_fields : find_field program (c 6) (name 5) ≡ several
unfolding find_field program
two_fields = refl

no_hidden_field : find_field program (c 4) (name 10) ≡ nothing
unfolding find_field program
no_hidden_field = refl

-- ---- methods by name and arguments

of_object_in_an_interface : find_method program (c 1) (name 2) [] ≡ one (record { class = c 0; at = 3 })
unfolding find_method methods_named program is_subtype is_below object_class library_class constructor_place
of_object_in_an_interface = refl

most_specific : find_method program (c 5) (name 4) (of base.Short ∷ []) ≡ one (record { class = c 5; at = 1 })
unfolding find_method methods_named program is_subtype is_below object_class library_class constructor_place
most_specific = refl

only_the_wider : find_method program (c 5) (name 4) (of base.Long ∷ []) ≡ one (record { class = c 4; at = 2 })
unfolding find_method methods_named program is_subtype is_below object_class library_class constructor_place
only_the_wider = refl

none_accepts : find_method program (c 5) (name 4) (of base.Bool ∷ []) ≡ nothing
unfolding find_method methods_named program is_subtype is_below object_class library_class constructor_place
none_accepts = refl

no_inherited_constructor : find_method program (c 5) (name 1) [] ≡ nothing
unfolding find_method methods_named program is_subtype is_below object_class library_class constructor_place
no_inherited_constructor = refl

own_constructor : find_method program (c 4) (name 1) [] ≡ one (record { class = c 4; at = 0 })
unfolding find_method methods_named program is_subtype is_below object_class library_class constructor_place
own_constructor = refl

-- both are abstract, and the result of J's is a subtype of that of I's
by_the_results : find_method program (c 3) (name 3) [] ≡ one (record { class = c 2; at = 0 })
unfolding find_method methods_named program is_subtype is_below object_class library_class constructor_place
by_the_results = refl

-- one of two isn't abstract
by_the_body : find_method program (c 6) (name 3) [] ≡ one (record { class = c 5; at = 0 })
unfolding find_method methods_named program is_subtype is_below object_class library_class constructor_place
by_the_body = refl

-- ---- the method of an object's class

overridden : dispatched program (c 6) (record { class = c 4; at = 1 }) ≡ Some (record { class = c 5; at = 1 })
unfolding dispatched implemented program
overridden = refl

inherited_method : dispatched program (c 6) (record { class = c 4; at = 2 }) ≡ Some (record { class = c 4; at = 2 })
unfolding dispatched implemented program
inherited_method = refl

of_an_interface : dispatched program (c 6) (record { class = c 2; at = 0 }) ≡ Some (record { class = c 5; at = 0 })
unfolding dispatched implemented program
of_an_interface = refl

a_private_one : dispatched program (c 6) (record { class = c 4; at = 3 }) ≡ Some (record { class = c 4; at = 3 })
unfolding dispatched implemented program
a_private_one = refl

by_a_bridge : dispatched program (c 7) (record { class = c 5; at = 1 }) ≡ Some (record { class = c 5; at = 2 })
unfolding dispatched implemented program
by_a_bridge = refl

none_implements : dispatched program (c 4) (record { class = c 1; at = 0 }) ≡ None
unfolding dispatched implemented program
none_implements = refl
