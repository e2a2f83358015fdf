-- Worked rows: a program that fits, and for each sentence of what fitting is, a program that breaks it alone.
use Rattle.std.proofs.Common.{◌≡◌, ℕ, List, [], ◌∷◌, ◌++◌, replicate, Option, Some, None, refl}
use Rattle.std.specs.Prelude.{Bool, true, false, pos}
use Rattle.je_base.specs.declared.span.NameId.{NameId}
use Rattle.je_base.specs.declared.span.Span.{Span}
use Rattle.je_core.specs.declared.program.Access.{Access}
use Rattle.je_core.specs.declared.program.Access.TheVariants.{Public, Private, Hidden}
use Rattle.je_core.specs.declared.program.Bridge.{Bridge}
use Rattle.je_core.specs.declared.program.Local.{Local as LocalOf}
use Rattle.je_core.specs.declared.program.Sort.{Sort}
use Rattle.je_core.specs.declared.program.Sort.TheVariants as sort
use Rattle.je_core.specs.declared.types.ClassId.{ClassId}
use Rattle.je_core.specs.declared.types.Ty.{Ty}
use Rattle.je_core.specs.declared.value.Value.TheVariants as value
use Rattle.je_core.specs.Core.{Core, CoreForm, CoreStmt, CoreStmtForm, CoreField, CoreMethod, CoreClass, CoreProgram, node, stmt, no_core, a_core, cores, core_stmts}
use Rattle.je_core.specs.Core as core
use Rattle.je_classes.specs.Hierarchy.{is_below, object_class, library_class}
use Rattle.je_classes.specs.Subtypes.{class_type, null_type, is_subtype}
use Rattle.je_classes.specs.Members.{constructor_place}
use Rattle.je_classes.specs.Dispatch.{implemented, dispatched}
use Rattle.je_fitting.specs.Types.{of, bool, int, void}
use Rattle.je_fitting.specs.way.DecidingClasses.{is_program_fit}

abbrev nowhere : Span
nowhere = record { file = 0; start = 0; end = 0 }

abbrev c : ℕ → ClassId
c n = record { 0 = n }

abbrev name : ℕ → NameId
name n = record { 0 = n }

abbrev object : Ty
object = class_type (c 0)

abbrev text : Ty
text = class_type (c 1)

abbrev field : Ty → Access → Bool → CoreField
field ty access is_final = record { name = name 9; span = nowhere; ty = ty; is_static = false; is_final = is_final; access = access; constant = None }

abbrev local : Ty → LocalOf
local ty = record { name = name 9; ty = ty; is_final = false; span = nowhere }

abbrev method : ℕ → List Ty → Ty → List LocalOf → Option CoreStmt → CoreMethod
method n params returns locals body = record {
  name = name n;
  span = nowhere;
  params = params;
  returns = returns;
  flags = record { is_static = false; is_final = false; is_abstract = false; is_native = false; is_finalizer = false; access = Public };
  throws = [];
  locals = locals;
  body = body;
}

abbrev abstract : CoreMethod → CoreMethod
abstract m = record m { flags = record m.flags { is_abstract = true } }

abbrev static : CoreMethod → CoreMethod
static m = record m { flags = record m.flags { is_static = true } }

abbrev class : Sort → Option ClassId → List ClassId → List CoreField → List CoreMethod → CoreClass
class s super interfaces fields methods = record {
  name = name 0;
  span = nowhere;
  kind = record { sort = s; is_abstract = false; is_final = false; is_static = false };
  superclass = super;
  interfaces = interfaces;
  heads = [];
  fields = fields;
  initializers = [];
  methods = methods;
  enclosing = None;
  captured = 0;
  within = None;
  nth = 0;
  top = c 0;
  bridges = [];
}

abbrev e : CoreForm → Ty → Core
e form ty = node form ty nowhere nowhere

abbrev s : CoreStmtForm → CoreStmt
s form = stmt form nowhere nowhere

abbrev block : List CoreStmt → Option CoreStmt
block parts = Some (s (core.Block [] (core_stmts parts)))

abbrev one : Core
one = e (core.Const (value.Int (pos 1)) []) int

abbrev nothing : Core
nothing = e (core.Const value.Null []) null_type

-- Names: 1 new, 2 toString, 3 f, 4 g. The library's 39 classes, of which 0 is Object and 1 String, then
-- 39 interface I { Object f(); }, 40 class A implements I { int x; A(int) { } String f() { return null; } static int g() { return 1; } },
-- 41 class B extends A { B() { super(1); } }.
abbrev library : List CoreClass
library =
    class sort.Class None [] [] (method 7 (object ∷ []) bool [] None ∷ method 8 [] int [] None ∷ method 1 [] void [] None ∷ method 2 [] text [] None ∷ []) ∷
    replicate 38 (class sort.Class (Some (c 0)) [] [] [])

abbrev class_i : CoreClass
class_i = class sort.Interface None [] [] (abstract (method 3 [] object [] None) ∷ [])

abbrev made : CoreMethod
made = method 1 (int ∷ []) void (local int ∷ []) (block [])

abbrev method_f : CoreMethod
method_f = method 3 [] text [] (block (s (core.Return (Some nothing)) ∷ []))

abbrev method_g : CoreMethod
method_g = static (method 4 [] int [] (block (s (core.Return (Some one)) ∷ [])))

abbrev class_a : CoreClass
class_a = class sort.Class (Some (c 0)) (c 39 ∷ []) (field int Public false ∷ []) (made ∷ method_f ∷ method_g ∷ [])

abbrev call : ClassId → List Core → CoreStmt
call of args = s (core.Do (e (core.CallExact (a_core (e core.This (class_type (c 41)))) of 0 (cores args)) void))

abbrev class_b : CoreClass
class_b = class sort.Class (Some (c 40)) [] [] (method 1 [] void [] (block (call (c 40) (one ∷ []) ∷ [])) ∷ [])

abbrev program : CoreClass → CoreClass → CoreClass → CoreProgram
program i a b = record { classes = library ++ i ∷ a ∷ b ∷ []; texts = [] }

abbrev with_methods : List CoreMethod → CoreClass
with_methods ms = record class_a { methods = ms }

abbrev bridge : ℕ → ℕ → Bridge
bridge from to = record { method = (c 40, from); by = (c 40, to) }

it_fits : is_program_fit (program class_i class_a class_b) ≡ true
unfolding is_subtype is_below object_class library_class constructor_place implemented dispatched
it_fits = refl

interface_as_superclass : is_program_fit (program class_i class_a (record class_b { superclass = Some (c 39) })) ≡ false
unfolding is_subtype is_below object_class library_class constructor_place implemented dispatched
interface_as_superclass = refl

final_superclass : is_program_fit (program class_i (record class_a { kind = record class_a.kind { is_final = true } }) class_b) ≡ false
unfolding is_subtype is_below object_class library_class constructor_place implemented dispatched
final_superclass = refl

no_superclass : is_program_fit (program class_i (record class_a { superclass = None }) class_b) ≡ false
unfolding is_subtype is_below object_class library_class constructor_place implemented dispatched
no_superclass = refl

interface_with_a_superclass : is_program_fit (program (record class_i { superclass = Some (c 0) }) class_a class_b) ≡ false
unfolding is_subtype is_below object_class library_class constructor_place implemented dispatched
interface_with_a_superclass = refl

class_as_interface : is_program_fit (program class_i (record class_a { interfaces = c 39 ∷ c 1 ∷ [] }) class_b) ≡ false
unfolding is_subtype is_below object_class library_class constructor_place implemented dispatched
class_as_interface = refl

above_itself : is_program_fit (program class_i (record class_a { superclass = Some (c 41) }) class_b) ≡ false
unfolding is_subtype is_below object_class library_class constructor_place implemented dispatched
above_itself = refl

round_itself : is_program_fit (program class_i (record class_a { within = Some (c 40) }) class_b) ≡ false
unfolding is_subtype is_below object_class library_class constructor_place implemented dispatched
round_itself = refl

top_not_there : is_program_fit (program class_i (record class_a { top = c 50 }) class_b) ≡ false
unfolding is_subtype is_below object_class library_class constructor_place implemented dispatched
top_not_there = refl

field_of_no_type : is_program_fit (program class_i (record class_a { fields = field void Public false ∷ [] }) class_b) ≡ false
unfolding is_subtype is_below object_class library_class constructor_place implemented dispatched
field_of_no_type = refl

field_of_a_class_not_there : is_program_fit (program class_i (record class_a { fields = field (class_type (c 50)) Public false ∷ [] }) class_b) ≡ false
unfolding is_subtype is_below object_class library_class constructor_place implemented dispatched
field_of_a_class_not_there = refl

constant_of_an_instance : is_program_fit (program class_i (record class_a { fields = record (field int Public true) { constant = Some one } ∷ [] }) class_b) ≡ false
unfolding is_subtype is_below object_class library_class constructor_place implemented dispatched
constant_of_an_instance = refl

hidden_without_enclosing : is_program_fit (program class_i (record class_a { fields = field object Hidden true ∷ [] }) class_b) ≡ false
unfolding is_subtype is_below object_class library_class constructor_place implemented dispatched
hidden_without_enclosing = refl

hidden_not_final : is_program_fit (program class_i (record class_a { fields = field object Hidden false ∷ []; enclosing = Some (c 0) }) class_b) ≡ false
unfolding is_subtype is_below object_class library_class constructor_place implemented dispatched
hidden_not_final = refl

no_body : is_program_fit (program class_i (with_methods (made ∷ method_f ∷ record method_g { body = None } ∷ [])) class_b) ≡ false
unfolding is_subtype is_below object_class library_class constructor_place implemented dispatched
no_body = refl

body_of_an_abstract_method : is_program_fit (program (record class_i { methods = record (abstract (method 3 [] object [] None)) { body = block (s (core.Return (Some nothing)) ∷ []) } ∷ [] }) class_a class_b) ≡ false
unfolding is_subtype is_below object_class library_class constructor_place implemented dispatched
body_of_an_abstract_method = refl

instance_field_in_an_interface : is_program_fit (program (record class_i { fields = field int Public true ∷ [] }) class_a class_b) ≡ false
unfolding is_subtype is_below object_class library_class constructor_place implemented dispatched
instance_field_in_an_interface = refl

static_field_in_an_interface : is_program_fit (program (record class_i { fields = (let f : CoreField = field int Public true in record f { is_static = true }) ∷ [] }) class_a class_b) ≡ true
unfolding is_subtype is_below object_class library_class constructor_place implemented dispatched
static_field_in_an_interface = refl

body_in_an_interface : is_program_fit (program (record class_i { methods = method 3 [] object [] (block (s (core.Return (Some nothing)) ∷ [])) ∷ [] }) class_a class_b) ≡ false
unfolding is_subtype is_below object_class library_class constructor_place implemented dispatched
body_in_an_interface = refl

static_constructor : is_program_fit (program class_i (with_methods (static made ∷ method_f ∷ method_g ∷ [])) class_b) ≡ false
unfolding is_subtype is_below object_class library_class constructor_place implemented dispatched
static_constructor = refl

constructor_with_a_result : is_program_fit (program class_i (with_methods (record made { returns = int } ∷ method_f ∷ method_g ∷ [])) class_b) ≡ false
unfolding is_subtype is_below object_class library_class constructor_place implemented dispatched
constructor_with_a_result = refl

result_of_an_override : is_program_fit (program class_i (with_methods (made ∷ record method_g { name = name 3; flags = method_f.flags } ∷ [])) class_b) ≡ false
unfolding is_subtype is_below object_class library_class constructor_place implemented dispatched
result_of_an_override = refl

static_override : is_program_fit (program class_i (with_methods (made ∷ static method_f ∷ method_g ∷ [])) class_b) ≡ false
unfolding is_subtype is_below object_class library_class constructor_place implemented dispatched
static_override = refl

nothing_implements : is_program_fit (program class_i (with_methods (made ∷ method_g ∷ [])) class_b) ≡ false
unfolding is_subtype is_below object_class library_class constructor_place implemented dispatched
nothing_implements = refl

locals_without_parameters : is_program_fit (program class_i (with_methods (record made { locals = [] } ∷ method_f ∷ method_g ∷ [])) class_b) ≡ false
unfolding is_subtype is_below object_class library_class constructor_place implemented dispatched
locals_without_parameters = refl

another_result : is_program_fit (program class_i (with_methods (made ∷ method_f ∷ record method_g { body = block (s (core.Return (Some nothing)) ∷ []) } ∷ [])) class_b) ≡ false
unfolding is_subtype is_below object_class library_class constructor_place implemented dispatched
another_result = refl

jump_without_a_target : is_program_fit (program class_i (with_methods (made ∷ method_f ∷ record method_g { body = block (s (core.Jump false None) ∷ s (core.Return (Some one)) ∷ []) } ∷ [])) class_b) ≡ false
unfolding is_subtype is_below object_class library_class constructor_place implemented dispatched
jump_without_a_target = refl

thrown_class_not_there : is_program_fit (program class_i (with_methods (made ∷ method_f ∷ record method_g { throws = c 50 ∷ [] } ∷ [])) class_b) ≡ false
unfolding is_subtype is_below object_class library_class constructor_place implemented dispatched
thrown_class_not_there = refl

head_call_without_arguments : is_program_fit (program class_i class_a (record class_b { methods = method 1 [] void [] (block (call (c 40) [] ∷ [])) ∷ [] })) ≡ false
unfolding is_subtype is_below object_class library_class constructor_place implemented dispatched
head_call_without_arguments = refl

head_call_of_another_class : is_program_fit (program class_i class_a (record class_b { methods = method 1 [] void [] (block (call (c 0) [] ∷ [])) ∷ [] })) ≡ false
unfolding is_subtype is_below object_class library_class constructor_place implemented dispatched
head_call_of_another_class = refl

constructor_called_later : is_program_fit (program class_i class_a (record class_b { methods = method 1 [] void [] (block (s core.Empty ∷ call (c 40) (one ∷ []) ∷ [])) ∷ [] })) ≡ false
unfolding is_subtype is_below object_class library_class constructor_place implemented dispatched
constructor_called_later = refl

bridge_of_static_methods : is_program_fit (program class_i (record class_a { bridges = bridge 2 2 ∷ [] }) class_b) ≡ false
unfolding is_subtype is_below object_class library_class constructor_place implemented dispatched
bridge_of_static_methods = refl

bridge_of_another_name : is_program_fit (program class_i (record class_a { bridges = bridge 1 0 ∷ [] }) class_b) ≡ false
unfolding is_subtype is_below object_class library_class constructor_place implemented dispatched
bridge_of_another_name = refl

two_bridges : is_program_fit (program class_i (record class_a { bridges = bridge 1 1 ∷ bridge 1 1 ∷ [] }) class_b) ≡ false
unfolding is_subtype is_below object_class library_class constructor_place implemented dispatched
two_bridges = refl

one_bridge : is_program_fit (program class_i (record class_a { bridges = bridge 1 1 ∷ [] }) class_b) ≡ true
unfolding is_subtype is_below object_class library_class constructor_place implemented dispatched
one_bridge = refl

static_hiding : is_program_fit (program class_i class_a (record class_b { methods = class_b.methods ++ record method_g { returns = text; body = block (s (core.Return (Some nothing)) ∷ []) } ∷ [] })) ≡ true
unfolding is_subtype is_below object_class library_class constructor_place implemented dispatched
static_hiding = refl

-- abstract class B extends A { B() { super(1); } abstract String f(); }
abbrev abstract_again : CoreClass
abstract_again = record class_b { kind = record class_b.kind { is_abstract = true }; methods = class_b.methods ++ abstract (record method_f { body = None }) ∷ [] }

it_is_abstract_again : is_program_fit (program class_i class_a abstract_again) ≡ true
unfolding is_subtype is_below object_class library_class constructor_place implemented dispatched
it_is_abstract_again = refl

-- class C extends B { C() { super(); } }
abbrev heir : CoreClass
heir = class sort.Class (Some (c 41)) [] [] (method 1 [] void [] (block (s (core.Do (e (core.CallExact (a_core (e core.This (class_type (c 42)))) (c 41) 0 (cores [])) void)) ∷ [])) ∷ [])

heir_of_an_abstract_method : is_program_fit (record { classes = library ++ class_i ∷ class_a ∷ abstract_again ∷ heir ∷ []; texts = [] }) ≡ false
unfolding is_subtype is_below object_class library_class constructor_place implemented dispatched
heir_of_an_abstract_method = refl

heir_of_a_method : is_program_fit (record { classes = library ++ class_i ∷ class_a ∷ class_b ∷ heir ∷ []; texts = [] }) ≡ true
unfolding is_subtype is_below object_class library_class constructor_place implemented dispatched
heir_of_a_method = refl

private_and_abstract : is_program_fit (program class_i (with_methods (made ∷ method_f ∷ method_g ∷ (let m = abstract (method 5 [] int [] None) in record m { flags = record m.flags { access = Private } }) ∷ [])) class_b) ≡ false
unfolding is_subtype is_below object_class library_class constructor_place implemented dispatched
private_and_abstract = refl

one_signature_of_two : is_program_fit (program class_i (with_methods (made ∷ method_f ∷ static method_f ∷ method_g ∷ [])) class_b) ≡ false
unfolding is_subtype is_below object_class library_class constructor_place implemented dispatched
one_signature_of_two = refl
