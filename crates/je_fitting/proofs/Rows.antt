-- Worked rows: for each form an expression that fits, and beside it one that doesn't.
use Rattle.std.proofs.Common.{◌≡◌, ℕ, List, [], ◌∷◌, Option, Some, None, refl}
use Rattle.std.specs.Prelude.{Bool, true, false, pos, codes}
use Rattle.je_base.specs.declared.span.NameId.{NameId}
use Rattle.je_base.specs.declared.span.Span.{Span}
use Rattle.je_core.specs.declared.expr.BinOp.TheVariants as op
use Rattle.je_core.specs.declared.expr.UnOp.TheVariants as unary_op
use Rattle.je_core.specs.declared.program.Access.{Access}
use Rattle.je_core.specs.declared.program.Access.TheVariants.{Public, Hidden}
use Rattle.je_core.specs.declared.program.Sort.TheVariants as sort
use Rattle.je_core.specs.declared.types.Base.TheVariants as base
use Rattle.je_core.specs.declared.types.ClassId.{ClassId}
use Rattle.je_core.specs.declared.types.Ty.{Ty}
use Rattle.je_core.specs.declared.value.Value.TheVariants as value
use Rattle.je_core.specs.Core.{Core, CoreForm, CoreField, CoreMethod, CoreClass, CoreProgram, node, no_core, a_core, cores}
use Rattle.je_core.specs.Core as core
use Rattle.je_classes.specs.Hierarchy.{is_below, object_class, library_class}
use Rattle.je_classes.specs.Subtypes.{class_type, null_type, array_of, is_subtype}
use Rattle.je_classes.specs.Members.{constructor_place}
use Rattle.je_fitting.specs.Types.{of, bool, int, void, string}
use Rattle.je_fitting.specs.Expressions.{Body, method, constructor}
use Rattle.je_fitting.specs.way.Deciding.{is_fit}

nowhere : Span
nowhere = record { file = 0; start = 0; end = 0 }

abbrev c : ℕ → ClassId
c n = record { 0 = n }

abbrev name : ℕ → NameId
name n = record { 0 = n }

abbrev long : Ty
long = of base.Long

abbrev object : Ty
object = class_type (c 0)

abbrev a_type : Ty
a_type = class_type (c 2)

abbrev field_of : Ty → Access → Bool → Bool → CoreField
field_of ty access is_static is_final = record { name = name 9; span = nowhere; ty = ty; is_static = is_static; is_final = is_final; access = access; constant = None }

abbrev method_of : ℕ → Bool → List Ty → Ty → CoreMethod
method_of n is_static params returns = record {
  name = name n;
  span = nowhere;
  params = params;
  returns = returns;
  flags = record { is_static = is_static; is_final = false; is_abstract = false; is_native = false; is_finalizer = false; access = Public };
  throws = [];
  locals = [];
  body = None;
}

abbrev class_of : Option ClassId → List CoreField → List CoreMethod → Option ClassId → ℕ → Bool → CoreClass
class_of super fields methods enclosing captured is_abstract = record {
  name = name 0;
  span = nowhere;
  kind = record { sort = sort.Class; is_abstract = is_abstract; is_final = false; is_static = false };
  superclass = super;
  interfaces = [];
  heads = [];
  fields = fields;
  initializers = [];
  methods = methods;
  enclosing = enclosing;
  captured = captured;
  within = None;
  nth = 0;
  top = c 0;
  bridges = [];
}

-- Names: 1 new, 3 f, 4 g. The classes: 0 Object, 1 String,
-- 2 class A { int x; final int y; static int s; static final int t; A(int); int f(long); static A g(); },
-- 3 abstract class B extends A, 4 a class in A with its outer field and one captured String.
program : CoreProgram
program = record {
  classes =
      class_of None [] (method_of 7 false (object ∷ []) bool ∷ method_of 8 false [] int ∷ method_of 1 false [] void ∷ method_of 2 false [] string ∷ []) None 0 false ∷
      class_of (Some (c 0)) [] [] None 0 false ∷
      class_of (Some (c 0)) (field_of int Public false false ∷ field_of int Public false true ∷ field_of int Public true false ∷ field_of int Public true true ∷ [])
      (method_of 1 false (int ∷ []) void ∷ method_of 3 false (long ∷ []) int ∷ method_of 4 true [] (class_type (c 2)) ∷ []) None 0 false ∷
      class_of (Some (c 2)) [] [] None 0 true ∷
      class_of (Some (c 0)) (field_of (class_type (c 2)) Hidden false true ∷ field_of (class_type (c 1)) Hidden false true ∷ []) (method_of 1 false [] void ∷ []) (Some (c 2)) 1 false ∷ [];
  texts = codes "a" ∷ codes "b" ∷ codes "b" ∷ [];
}

-- an instance method and a constructor of A, each with the locals int, A, String, int[] and long
abbrev locals : List Ty
locals = int ∷ class_type (c 2) ∷ class_type (c 1) ∷ array_of int ∷ long ∷ []

body : Body
body = record { class = c 2; code = method; is_static = false; locals = locals; returns = Some void }

building : Body
building = record { class = c 2; code = constructor; is_static = false; locals = locals; returns = Some void }

still : Body
still = record { class = c 2; code = method; is_static = true; locals = locals; returns = Some void }

abbrev e : CoreForm → Ty → Core
e form ty = node form ty nowhere nowhere

abbrev number : Core
number = e (core.Const (value.Int (pos 1)) []) int

abbrev local : ℕ → Ty → Core
local n ty = e (core.Local n) ty

abbrev this : Core
this = e core.This (class_type (c 2))

abbrev text : Core
text = local 2 (class_type (c 1))

abbrev fits : Body → Core → Bool
fits b x = is_fit program b x

a_constant : fits body (number) ≡ true
unfolding program body building still is_subtype is_below object_class library_class constructor_place
a_constant = refl

constant_of_another_type : fits body (e (core.Const (value.Int (pos 1)) []) long) ≡ false
unfolding program body building still is_subtype is_below object_class library_class constructor_place
constant_of_another_type = refl

a_text : fits body (e (core.Text (codes "a") []) string) ≡ true
unfolding program body building still is_subtype is_below object_class library_class constructor_place
a_text = refl

text_not_among_the_texts : fits body (e (core.Text (codes "c") []) string) ≡ false
unfolding program body building still is_subtype is_below object_class library_class constructor_place
text_not_among_the_texts = refl

text_twice_among_the_texts : fits body (e (core.Text (codes "b") []) string) ≡ false
unfolding program body building still is_subtype is_below object_class library_class constructor_place
text_twice_among_the_texts = refl

a_local : fits body (local 4 long) ≡ true
unfolding program body building still is_subtype is_below object_class library_class constructor_place
a_local = refl

local_of_another_type : fits body (local 4 int) ≡ false
unfolding program body building still is_subtype is_below object_class library_class constructor_place
local_of_another_type = refl

no_such_local : fits body (local 5 int) ≡ false
unfolding program body building still is_subtype is_below object_class library_class constructor_place
no_such_local = refl

this_of_the_class : fits body (this) ≡ true
unfolding program body building still is_subtype is_below object_class library_class constructor_place
this_of_the_class = refl

no_this_in_a_static_method : fits still (this) ≡ false
unfolding program body building still is_subtype is_below object_class library_class constructor_place
no_this_in_a_static_method = refl

a_field : fits body (e (core.Field this (c 2) 0) int) ≡ true
unfolding program body building still is_subtype is_below object_class library_class constructor_place
a_field = refl

static_field_as_a_field : fits body (e (core.Field this (c 2) 2) int) ≡ false
unfolding program body building still is_subtype is_below object_class library_class constructor_place
static_field_as_a_field = refl

field_of_a_class_not_above : fits body (e (core.Field text (c 2) 0) int) ≡ false
unfolding program body building still is_subtype is_below object_class library_class constructor_place
field_of_a_class_not_above = refl

a_static : fits body (e (core.Static no_core (c 2) 2) int) ≡ true
unfolding program body building still is_subtype is_below object_class library_class constructor_place
a_static = refl

static_from_an_object : fits body (e (core.Static (a_core this) (c 2) 2) int) ≡ true
unfolding program body building still is_subtype is_below object_class library_class constructor_place
static_from_an_object = refl

field_as_a_static : fits body (e (core.Static no_core (c 2) 0) int) ≡ false
unfolding program body building still is_subtype is_below object_class library_class constructor_place
field_as_a_static = refl

an_element : fits body (e (core.Index (local 3 (array_of int)) number) int) ≡ true
unfolding program body building still is_subtype is_below object_class library_class constructor_place
an_element = refl

long_index : fits body (e (core.Index (local 3 (array_of int)) (local 4 long)) int) ≡ false
unfolding program body building still is_subtype is_below object_class library_class constructor_place
long_index = refl

element_of_no_array : fits body (e (core.Index number number) int) ≡ false
unfolding program body building still is_subtype is_below object_class library_class constructor_place
element_of_no_array = refl

a_length : fits body (e (core.Length (local 3 (array_of int))) int) ≡ true
unfolding program body building still is_subtype is_below object_class library_class constructor_place
a_length = refl

length_of_no_array : fits body (e (core.Length text) int) ≡ false
unfolding program body building still is_subtype is_below object_class library_class constructor_place
length_of_no_array = refl

an_assignment : fits body (e (core.Assign (local 0 int) number) int) ≡ true
unfolding program body building still is_subtype is_below object_class library_class constructor_place
an_assignment = refl

assigned_constant : fits body (e (core.Assign number number) int) ≡ false
unfolding program body building still is_subtype is_below object_class library_class constructor_place
assigned_constant = refl

assigned_another_type : fits body (e (core.Assign (local 4 long) number) long) ≡ false
unfolding program body building still is_subtype is_below object_class library_class constructor_place
assigned_another_type = refl

final_field_in_a_method : fits body (e (core.Assign (e (core.Field this (c 2) 1) int) number) int) ≡ false
unfolding program body building still is_subtype is_below object_class library_class constructor_place
final_field_in_a_method = refl

final_field_in_a_constructor : fits building (e (core.Assign (e (core.Field this (c 2) 1) int) number) int) ≡ true
unfolding program body building still is_subtype is_below object_class library_class constructor_place
final_field_in_a_constructor = refl

final_field_of_another_object : fits building (e (core.Assign (e (core.Field (local 1 (class_type (c 2))) (c 2) 1) int) number) int) ≡ false
unfolding program body building still is_subtype is_below object_class library_class constructor_place
final_field_of_another_object = refl

final_static_in_a_constructor : fits building (e (core.Assign (e (core.Static no_core (c 2) 3) int) number) int) ≡ false
unfolding program body building still is_subtype is_below object_class library_class constructor_place
final_static_in_a_constructor = refl

an_update : fits body (e (core.Update (local 0 int) op.Mul (a_core (local 4 long)) false) int) ≡ true
unfolding program body building still is_subtype is_below object_class library_class constructor_place
an_update = refl

a_step : fits body (e (core.Update (local 4 long) op.Sub no_core true) long) ≡ true
unfolding program body building still is_subtype is_below object_class library_class constructor_place
a_step = refl

step_by_another_operator : fits body (e (core.Update (local 0 int) op.Mul no_core true) int) ≡ false
unfolding program body building still is_subtype is_below object_class library_class constructor_place
step_by_another_operator = refl

text_updated : fits body (e (core.Update text op.Add (a_core number) false) string) ≡ true
unfolding program body building still is_subtype is_below object_class library_class constructor_place
text_updated = refl

update_with_its_old_value : fits body (e (core.Update (local 0 int) op.Mul (a_core number) true) int) ≡ false
unfolding program body building still is_subtype is_below object_class library_class constructor_place
update_with_its_old_value = refl

a_minus : fits body (e (core.Unary unary_op.Minus number) int) ≡ true
unfolding program body building still is_subtype is_below object_class library_class constructor_place
a_minus = refl

not_of_a_number : fits body (e (core.Unary unary_op.Not number) int) ≡ false
unfolding program body building still is_subtype is_below object_class library_class constructor_place
not_of_a_number = refl

a_sum : fits body (e (core.Binary op.Add number number) int) ≡ true
unfolding program body building still is_subtype is_below object_class library_class constructor_place
a_sum = refl

int_and_long : fits body (e (core.Binary op.Add number (local 4 long)) long) ≡ false
unfolding program body building still is_subtype is_below object_class library_class constructor_place
int_and_long = refl

shifted_by_a_long : fits body (e (core.Binary op.Shl number (local 4 long)) int) ≡ true
unfolding program body building still is_subtype is_below object_class library_class constructor_place
shifted_by_a_long = refl

same_objects : fits body (e (core.Binary op.Eq this text) bool) ≡ true
unfolding program body building still is_subtype is_below object_class library_class constructor_place
same_objects = refl

both : fits body (e (core.And (e (core.Const (value.Bool true) []) bool) (e (core.Const (value.Bool false) []) bool)) bool) ≡ true
unfolding program body building still is_subtype is_below object_class library_class constructor_place
both = refl

either_of_a_number : fits body (e (core.Or number number) bool) ≡ false
unfolding program body building still is_subtype is_below object_class library_class constructor_place
either_of_a_number = refl

a_choice : fits body (e (core.Choose (e (core.Const (value.Bool true) []) bool) this (e (core.Const value.Null []) null_type)) (class_type (c 2))) ≡ true
unfolding program body building still is_subtype is_below object_class library_class constructor_place
a_choice = refl

choice_of_a_type_above : fits body (e (core.Choose (e (core.Const (value.Bool true) []) bool) this text) object) ≡ false
unfolding program body building still is_subtype is_below object_class library_class constructor_place
choice_of_a_type_above = refl

a_conversion : fits body (e (core.Convert number) long) ≡ true
unfolding program body building still is_subtype is_below object_class library_class constructor_place
a_conversion = refl

conversion_to_itself : fits body (e (core.Convert number) int) ≡ false
unfolding program body building still is_subtype is_below object_class library_class constructor_place
conversion_to_itself = refl

a_cast : fits body (e (core.Cast this) string) ≡ true
unfolding program body building still is_subtype is_below object_class library_class constructor_place
a_cast = refl

cast_of_a_number : fits body (e (core.Cast number) object) ≡ false
unfolding program body building still is_subtype is_below object_class library_class constructor_place
cast_of_a_number = refl

cast_to_no_class : fits body (e (core.Cast this) (class_type (c 9))) ≡ false
unfolding program body building still is_subtype is_below object_class library_class constructor_place
cast_to_no_class = refl

an_instance_of : fits body (e (core.InstanceOf this string) bool) ≡ true
unfolding program body building still is_subtype is_below object_class library_class constructor_place
an_instance_of = refl

instance_of_a_primitive : fits body (e (core.InstanceOf this int) bool) ≡ false
unfolding program body building still is_subtype is_below object_class library_class constructor_place
instance_of_a_primitive = refl

joined : fits body (e (core.Concat text number) string) ≡ true
unfolding program body building still is_subtype is_below object_class library_class constructor_place
joined = refl

joined_numbers : fits body (e (core.Concat number number) string) ≡ false
unfolding program body building still is_subtype is_below object_class library_class constructor_place
joined_numbers = refl

a_call : fits body (e (core.CallVirtual this (c 2) 1 (cores (local 4 long ∷ []))) int) ≡ true
unfolding program body building still is_subtype is_below object_class library_class constructor_place
a_call = refl

unconverted_argument : fits body (e (core.CallVirtual this (c 2) 1 (cores (number ∷ []))) int) ≡ false
unfolding program body building still is_subtype is_below object_class library_class constructor_place
unconverted_argument = refl

static_method_of_an_object : fits body (e (core.CallVirtual this (c 2) 2 (cores [])) (class_type (c 2))) ≡ false
unfolding program body building still is_subtype is_below object_class library_class constructor_place
static_method_of_an_object = refl

a_static_call : fits body (e (core.CallExact no_core (c 2) 2 (cores [])) (class_type (c 2))) ≡ true
unfolding program body building still is_subtype is_below object_class library_class constructor_place
a_static_call = refl

method_without_a_receiver : fits body (e (core.CallExact no_core (c 2) 1 (cores (local 4 long ∷ []))) int) ≡ false
unfolding program body building still is_subtype is_below object_class library_class constructor_place
method_without_a_receiver = refl

constructor_called : fits body (e (core.CallExact (a_core this) (c 2) 0 (cores (number ∷ []))) void) ≡ false
unfolding program body building still is_subtype is_below object_class library_class constructor_place
constructor_called = refl

a_new : fits body (e (core.New (c 2) 0 (cores (number ∷ [])) [] nowhere) (class_type (c 2))) ≡ true
unfolding program body building still is_subtype is_below object_class library_class constructor_place
a_new = refl

new_of_an_abstract_class : fits body (e (core.New (c 3) 0 (cores (number ∷ [])) [] nowhere) (class_type (c 3))) ≡ false
unfolding program body building still is_subtype is_below object_class library_class constructor_place
new_of_an_abstract_class = refl

new_by_a_method : fits body (e (core.New (c 2) 1 (cores (local 4 long ∷ [])) [] nowhere) (class_type (c 2))) ≡ false
unfolding program body building still is_subtype is_below object_class library_class constructor_place
new_by_a_method = refl

new_with_captures : fits body (e (core.New (c 4) 0 (cores []) (record { class = c 4; field = 0; local = None; path = [] } ∷ record { class = c 4; field = 1; local = Some 2; path = [] } ∷ []) nowhere) (class_type (c 4))) ≡ true
unfolding program body building still is_subtype is_below object_class library_class constructor_place
new_with_captures = refl

new_without_its_outer_instance : fits body (e (core.New (c 4) 0 (cores []) (record { class = c 4; field = 1; local = Some 2; path = [] } ∷ []) nowhere) (class_type (c 4))) ≡ false
unfolding program body building still is_subtype is_below object_class library_class constructor_place
new_without_its_outer_instance = refl

capture_of_another_type : fits body (e (core.New (c 4) 0 (cores []) (record { class = c 4; field = 0; local = None; path = [] } ∷ record { class = c 4; field = 1; local = Some 0; path = [] } ∷ []) nowhere) (class_type (c 4))) ≡ false
unfolding program body building still is_subtype is_below object_class library_class constructor_place
capture_of_another_type = refl

a_new_array : fits body (e (core.NewArray (cores (number ∷ []))) (array_of (array_of int))) ≡ true
unfolding program body building still is_subtype is_below object_class library_class constructor_place
a_new_array = refl

more_lengths_than_dimensions : fits body (e (core.NewArray (cores (number ∷ number ∷ []))) (array_of int)) ≡ false
unfolding program body building still is_subtype is_below object_class library_class constructor_place
more_lengths_than_dimensions = refl

no_length : fits body (e (core.NewArray (cores [])) (array_of int)) ≡ false
unfolding program body building still is_subtype is_below object_class library_class constructor_place
no_length = refl

an_array_of_values : fits body (e (core.ArrayOf (cores (this ∷ text ∷ []))) (array_of object)) ≡ true
unfolding program body building still is_subtype is_below object_class library_class constructor_place
an_array_of_values = refl

value_of_another_type : fits body (e (core.ArrayOf (cores (this ∷ []))) (array_of string)) ≡ false
unfolding program body building still is_subtype is_below object_class library_class constructor_place
value_of_another_type = refl
