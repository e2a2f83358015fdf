-- Worked rows: a world that is sound, and for each sentence of what that is, its nearest neighbour that isn't; calls that fit, and
-- theirs.
use Rattle.std.proofs.Common.{◌≡◌, ℕ, List, [], ◌∷◌, ◌++◌, replicate, Option, Some, None, refl}
use Rattle.std.specs.Prelude.{Bool, true, false, pos}
use Rattle.je_base.specs.declared.span.NameId.{NameId}
use Rattle.je_base.specs.declared.span.Span.{Span}
use Rattle.je_core.specs.declared.object.Obj.{Obj}
use Rattle.je_core.specs.declared.object.Obj.TheVariants.{Instance, Array, Text, Builder, Row, Cap}
use Rattle.je_core.specs.declared.program.Access.TheVariants.{Public}
use Rattle.je_core.specs.declared.program.Sort.{Sort}
use Rattle.je_core.specs.declared.program.Sort.TheVariants as sort
use Rattle.je_core.specs.declared.types.Base.TheVariants as base
use Rattle.je_core.specs.declared.types.ClassId.{ClassId}
use Rattle.je_core.specs.declared.types.Ty.{Ty}
use Rattle.je_core.specs.declared.value.Value.{Value}
use Rattle.je_core.specs.declared.value.Value.TheVariants.{Bool as Truth, Int, Long, Null, Ref}
use Rattle.je_core.specs.Core.{CoreField, CoreMethod, CoreClass, CoreProgram}
use Rattle.je_classes.specs.Hierarchy.{is_below, library_class, object_class}
use Rattle.je_classes.specs.Members.{constructor_place}
use Rattle.je_classes.specs.Slots.{slot_fields}
use Rattle.je_classes.specs.Subtypes.{class_type, null_type, is_subtype}
use Rattle.je_java.specs.declared.call.Receiver.{Receiver}
use Rattle.je_java.specs.declared.call.Receiver.TheVariants as receiver
use Rattle.je_java.specs.LibraryClasses.{string_class, builder_class}
use Rattle.je_fitting.specs.Types.{int, string, void}
use Rattle.je_sound.specs.Objects.{throwable_class, token_class, immutable_class, const_row, int_row, text_row, device_interfaces}
use Rattle.je_sound.specs.way.Deciding.{is_sound, is_call_fit}

-- one name that opens the tests
unfoldable opened : ℕ
unfolding is_below library_class object_class slot_fields is_subtype string_class builder_class throwable_class token_class immutable_class const_row int_row text_row device_interfaces constructor_place
opened = 0

abbrev nowhere : Span
nowhere = record { file = 0; start = 0; end = 0 }

abbrev c : ℕ → ClassId
c n = record { 0 = n }

abbrev to : ℕ → Value
to n = Ref (record { 0 = n })

abbrev name : NameId
name = record { 0 = 9 }

abbrev field : Ty → CoreField
field ty = record { name = name; span = nowhere; ty = ty; is_static = false; is_final = false; access = Public; constant = None }

abbrev long : Ty
long = record { base = base.Long; dims = 0 }

abbrev static : CoreField → CoreField
static f = record f { is_static = true }

abbrev class : Sort → Option ClassId → List CoreField → CoreClass
class s super fields = record {
  name = name;
  span = nowhere;
  kind = record { sort = s; is_abstract = false; is_final = false; is_static = false };
  superclass = super;
  interfaces = [];
  heads = [];
  fields = fields;
  initializers = [];
  methods = [];
  enclosing = None;
  captured = 0;
  within = None;
  nth = 0;
  top = c 0;
  bridges = [];
}

abbrev method : ℕ → Bool → List Ty → CoreMethod
method n is_static params = record {
  name = record { 0 = n };
  span = nowhere;
  params = params;
  returns = void;
  flags = record { is_static = is_static; is_final = false; is_abstract = false; is_native = false; is_finalizer = false; access = Public };
  throws = [];
  locals = [];
  body = None;
}

abbrev with_methods : CoreClass → List CoreMethod → CoreClass
with_methods d ms = record d { methods = ms }

-- under the name 1 there are constructors
abbrev class_a : CoreClass
class_a = with_methods (class sort.Class (Some (c 0)) (field int ∷ field (class_type (c 39)) ∷ static (field string) ∷ [])) (method 1 false (int ∷ []) ∷ method 3 false (class_type (c 39) ∷ []) ∷ method 4 true [] ∷ [])

abbrev class_c : CoreClass
class_c = let d : CoreClass = with_methods (class sort.Class (Some (c 0)) []) (method 1 false [] ∷ []) in record d { kind = record d.kind { is_abstract = true } }

abbrev object : CoreClass
object = with_methods (class sort.Class None []) (method 7 false (class_type (c 0) ∷ []) ∷ method 8 false [] ∷ method 1 false [] ∷ method 2 false [] ∷ [])

-- The library's 39 classes, of which 0 is Object, 1 String, 9 Throwable, 14 Token, 16 IntRow and 18 Console, then
-- 39 class A { int x; A next; static String s; A(int) { } void f(A) { } static void g() { } }, 40 class B extends A { long y; },
-- 41 abstract class C { C() { } }, 42 interface I { }, and one constant string.
abbrev program : CoreProgram
program = record {
  classes = object ∷ replicate 38 (class sort.Class (Some (c 0)) []) ++ class_a ∷ class sort.Class (Some (c 39)) (field long ∷ []) ∷ class_c ∷ class sort.Interface None [] ∷ [];
  texts = (104 ∷ []) ∷ [];
}

-- the constant string, an A, a B that the A refers to, and one object more
abbrev objects : Obj → List Obj
objects other = Text (104 ∷ []) ∷ Instance (c 39) (Int (pos 7) ∷ to 2 ∷ []) ∷ Instance (c 40) (Int (pos 7) ∷ Null ∷ Long (pos 1) ∷ []) ∷ other ∷ []

abbrev with_object : Obj → Bool
with_object other = is_sound program (record { objects = objects other; statics = to 0 ∷ to 0 ∷ [] })

abbrev call : Receiver → ClassId → ℕ → List Value → Bool
call on class at given = is_call_fit program (record { objects = objects (Builder []); statics = to 0 ∷ to 0 ∷ [] }) on class at given

abbrev on : ℕ → Receiver
on n = receiver.Object (record { 0 = n })

abbrev with_statics : List Value → Bool
with_statics statics = is_sound program (record { objects = objects (Builder []); statics = statics })

a_builder : with_object (Builder []) ≡ true
unfolding opened
a_builder = refl

an_object : with_object (Instance (c 0) []) ≡ true
unfolding opened
an_object = refl

a_token : with_object (Instance (c 14) []) ≡ true
unfolding opened
a_token = refl

a_throwable : with_object (Instance (c 9) []) ≡ true
unfolding opened
a_throwable = refl

string_as_an_instance : with_object (Instance (c 1) []) ≡ false
unfolding opened
string_as_an_instance = refl

abstract_instance : with_object (Instance (c 41) []) ≡ false
unfolding opened
abstract_instance = refl

interface_instance : with_object (Instance (c 42) []) ≡ false
unfolding opened
interface_instance = refl

no_such_class : with_object (Instance (c 43) []) ≡ false
unfolding opened
no_such_class = refl

-- a slot takes an object of its class, of a class below it, or null

a_subclass_in_a_slot : with_object (Instance (c 39) (Int (pos 0) ∷ to 2 ∷ [])) ≡ true
unfolding opened
a_subclass_in_a_slot = refl

object_in_a_slot : with_object (Instance (c 39) (Int (pos 0) ∷ to 0 ∷ [])) ≡ false
unfolding opened
object_in_a_slot = refl

no_such_object : with_object (Instance (c 39) (Int (pos 0) ∷ to 4 ∷ [])) ≡ false
unfolding opened
no_such_object = refl

boolean_in_an_int : with_object (Instance (c 39) (Truth true ∷ Null ∷ [])) ≡ false
unfolding opened
boolean_in_an_int = refl

-- no slot more and none less, those of the superclass first

slot_left_out : with_object (Instance (c 39) (Int (pos 0) ∷ [])) ≡ false
unfolding opened
slot_left_out = refl

slot_too_many : with_object (Instance (c 39) (Int (pos 0) ∷ Null ∷ Null ∷ [])) ≡ false
unfolding opened
slot_too_many = refl

slots_of_the_superclass_last : with_object (Instance (c 40) (Long (pos 1) ∷ Int (pos 7) ∷ Null ∷ [])) ≡ false
unfolding opened
slots_of_the_superclass_last = refl

-- arrays

array_of_ints : with_object (Array int (Int (pos 1) ∷ Int (pos 2) ∷ [])) ≡ true
unfolding opened
array_of_ints = refl

array_of_objects : with_object (Array (class_type (c 39)) (to 1 ∷ to 2 ∷ Null ∷ [])) ≡ true
unfolding opened
array_of_objects = refl

element_of_another_type : with_object (Array (class_type (c 40)) (to 1 ∷ [])) ≡ false
unfolding opened
element_of_another_type = refl

array_of_void : with_object (Array void []) ≡ false
unfolding opened
array_of_void = refl

array_of_null : with_object (Array null_type []) ≡ false
unfolding opened
array_of_null = refl

array_of_no_class : with_object (Array (class_type (c 43)) []) ≡ false
unfolding opened
array_of_no_class = refl

many_dimensions : with_object (Array (record int { dims = 254 }) []) ≡ true
unfolding opened
many_dimensions = refl

too_many_dimensions : with_object (Array (record int { dims = 255 }) []) ≡ false
unfolding opened
too_many_dimensions = refl

-- rows and capabilities

row_of_ints : with_object (Row (c 16) (Int (pos 1) ∷ [])) ≡ true
unfolding opened
row_of_ints = refl

row_of_texts : with_object (Row (c 17) (to 0 ∷ [])) ≡ true
unfolding opened
row_of_texts = refl

row_of_another_type : with_object (Row (c 16) (to 0 ∷ [])) ≡ false
unfolding opened
row_of_another_type = refl

row_of_a_guest : with_object (Row (c 39) []) ≡ false
unfolding opened
row_of_a_guest = refl

a_capability : with_object (Cap 0 (c 18)) ≡ true
unfolding opened
a_capability = refl

capability_of_a_guest : with_object (Cap 0 (c 42)) ≡ false
unfolding opened
capability_of_a_guest = refl

-- statics, and then constant strings

null_in_a_static : with_statics (Null ∷ to 0 ∷ []) ≡ true
unfolding opened
null_in_a_static = refl

object_in_a_static : with_statics (to 1 ∷ to 0 ∷ []) ≡ false
unfolding opened
object_in_a_static = refl

static_left_out : with_statics (to 0 ∷ []) ≡ false
unfolding opened
static_left_out = refl

null_for_a_constant_string : with_statics (to 0 ∷ Null ∷ []) ≡ false
unfolding opened
null_for_a_constant_string = refl

builder_for_a_constant_string : with_statics (to 0 ∷ to 3 ∷ []) ≡ false
unfolding opened
builder_for_a_constant_string = refl

-- a start, of a class that is not abstract, with as many arguments as the constructor has parameters

start : call receiver.Fresh (c 39) 0 (Int (pos 1) ∷ []) ≡ true
unfolding opened
start = refl

start_without_argument : call receiver.Fresh (c 39) 0 [] ≡ false
unfolding opened
start_without_argument = refl

start_of_an_abstract_class : call receiver.Fresh (c 41) 0 [] ≡ false
unfolding opened
start_of_an_abstract_class = refl

start_by_a_method : call receiver.Fresh (c 39) 2 [] ≡ false
unfolding opened
start_by_a_method = refl

start_of_a_library_class : call receiver.Fresh (c 0) 2 [] ≡ false
unfolding opened
start_of_a_library_class = refl

-- a method on an object of its class, or of one below it

on_an_object : call (on 1) (c 39) 1 (to 2 ∷ []) ≡ true
unfolding opened
on_an_object = refl

on_one_of_a_subclass : call (on 2) (c 39) 1 (Null ∷ []) ≡ true
unfolding opened
on_one_of_a_subclass = refl

on_a_text : call (on 0) (c 39) 1 (Null ∷ []) ≡ false
unfolding opened
on_a_text = refl

text_for_an_object : call (on 1) (c 39) 1 (to 0 ∷ []) ≡ false
unfolding opened
text_for_an_object = refl

constructor_on_an_object : call (on 1) (c 39) 0 (Int (pos 1) ∷ []) ≡ false
unfolding opened
constructor_on_an_object = refl

without_an_object : call receiver.None (c 39) 1 (Null ∷ []) ≡ false
unfolding opened
without_an_object = refl

-- a static method on nothing

a_static_method : call receiver.None (c 39) 2 [] ≡ true
unfolding opened
a_static_method = refl

static_method_on_an_object : call (on 1) (c 39) 2 [] ≡ false
unfolding opened
static_method_on_an_object = refl

no_such_method : call receiver.None (c 39) 3 [] ≡ false
unfolding opened
no_such_method = refl
