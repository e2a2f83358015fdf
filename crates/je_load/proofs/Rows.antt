-- Worked rows: what the load of small programs comes to.
use Rattle.std.proofs.Common.{◌≡◌, ℕ, List, [], ◌∷◌, Option, Some, None, refl}
use Rattle.std.specs.Prelude.{ℤ, Bool, pos, true, false, codes}
use Rattle.std.specs.Int.{int_wrap}
use Rattle.je_core.specs.Core.{Core, Text, Static, Assign, Update, Binary, CallExact, New, CoreStmt, Throw, Try, catch, core_catches, CoreField, CoreInitializer, CoreMethod, CoreClass, CoreProgram, cores, maybe_core, maybe_stmt}
use Rattle.je_core.specs.declared.expr.BinOp.TheVariants.{Add}
use Rattle.je_core.specs.declared.object.Obj.TheVariants.{Instance, Cap, Text as TextObject}
use Rattle.je_core.specs.declared.types.ClassId.{ClassId}
use Rattle.je_core.specs.declared.value.Value.{Value}
use Rattle.je_core.specs.declared.value.Value.TheVariants.{Int}
use Rattle.je_java.specs.Meaning.{java, meanings}
use Rattle.je_java.specs.way.Opened.{opened}
use Rattle.je_java.proofs.Rows.{nowhere, int, void, expr, statement, constant, local, increased, local_of, field, method, class_of_methods, constructor, body, gives, does}
use Rattle.je_load.specs.Loading.{reference, world_before, End, Loaded, ThrownIn, SpentIn, end_of, load_within, load}

abbrev class_number : ℕ → ClassId
class_number n = record { 0 = n }

-- each class has one static field, `s`, and the initializers of its row
abbrev static_field : CoreField
static_field = field true

abbrev initializer : Bool → List CoreStmt → CoreInitializer
initializer is_static parts = record { is_static = is_static; span = nowhere; locals = local_of int ∷ []; body = body parts }

abbrev class : Option ClassId → List CoreInitializer → List CoreMethod → CoreClass
class superclass initializers methods = record (class_of_methods methods) { superclass = superclass; fields = static_field ∷ []; initializers = initializers }

abbrev of_classes : List CoreClass → CoreProgram
of_classes classes = record { classes = classes; texts = [] }

-- s of a class
abbrev variable : ℕ → Core
variable n = expr (Static (maybe_core None) (class_number n) 0)

abbrev sets : ℕ → Core → CoreStmt
sets n value = does (expr (Assign (variable n) value))

abbrev number : ℤ → Core
number z = constant (Int z)

-- static int s = value;
abbrev begins_as : ℕ → Core → CoreInitializer
begins_as n value = initializer true (sets n value ∷ [])

abbrev ends_with : List Value → Option End
ends_with statics = Some (Loaded (record { objects = []; statics = statics }))

-- class A { static int s = B.s + 1; } class B { static int s = A.s + 1; }: B is started from within A, and sees A's
-- default
cycle : load (of_classes (class None (begins_as 0 (increased (variable 1)) ∷ []) [] ∷ class None (begins_as 1 (increased (variable 0)) ∷ []) [] ∷ [])) [] ≡
    ends_with (Int (pos 2) ∷ Int (pos 1) ∷ [])
unfolding java meanings opened int_wrap
cycle = refl

-- class A { static int s = s + 1; } class B { static int s = A.s + 1; }: without a cycle B sees what A has
no_cycle : load (of_classes (class None (begins_as 0 (increased (variable 0)) ∷ []) [] ∷ class None (begins_as 1 (increased (variable 0)) ∷ []) [] ∷ [])) [] ≡
    ends_with (Int (pos 1) ∷ Int (pos 2) ∷ [])
unfolding java meanings opened int_wrap
no_cycle = refl

-- class A { static int s = B.s; static { s = s + 1; } } class B { static final int s = 7; static { A.s = 5; } }: a
-- constant variable is read without a start of its class, and B's initializer comes last
abbrev constant_seven : CoreClass
constant_seven = record (class None (initializer true (sets 0 (number (pos 5)) ∷ []) ∷ []) []) { fields = record static_field { is_final = true; constant = Some (number (pos 7)) } ∷ [] }

reads_a_constant : load (of_classes (class None (begins_as 0 (variable 1) ∷ begins_as 0 (increased (variable 0)) ∷ []) [] ∷ constant_seven ∷ [])) [] ≡
    ends_with (Int (pos 5) ∷ Int (pos 7) ∷ [])
unfolding java meanings opened int_wrap
reads_a_constant = refl

-- the same where the field is no constant: B is started first, and A's initializers come last
reads_a_variable : load (of_classes (class None (begins_as 0 (variable 1) ∷ begins_as 0 (increased (variable 0)) ∷ []) [] ∷ class None (initializer true (sets 0 (number (pos 5)) ∷ []) ∷ begins_as 1 (number (pos 7)) ∷ []) [] ∷ [])) [] ≡
    ends_with (Int (pos 8) ∷ Int (pos 7) ∷ [])
unfolding java meanings opened int_wrap
reads_a_variable = refl

-- class A extends B { static { s = s + 1; } } class B { static { A.s = 3; } }: a superclass before its class
superclass_first : load (of_classes (class (Some (class_number 1)) (begins_as 0 (increased (variable 0)) ∷ []) [] ∷ class None (begins_as 0 (number (pos 3)) ∷ []) [] ∷ [])) [] ≡
    ends_with (Int (pos 4) ∷ Int (pos 0) ∷ [])
unfolding java meanings opened int_wrap
superclass_first = refl

-- the same without `extends`
no_superclass : load (of_classes (class None (begins_as 0 (increased (variable 0)) ∷ []) [] ∷ class None (begins_as 0 (number (pos 3)) ∷ []) [] ∷ [])) [] ≡
    ends_with (Int (pos 3) ∷ Int (pos 0) ∷ [])
unfolding java meanings opened int_wrap
no_superclass = refl

-- class A extends B { static int s = 7; } class B { static int s = A.s; }: a class counts as started before its
-- superclass is started, which sees its default
subclass_first : load (of_classes (class (Some (class_number 1)) (begins_as 0 (number (pos 7)) ∷ []) [] ∷ class None (begins_as 1 (variable 0) ∷ []) [] ∷ [])) [] ≡
    ends_with (Int (pos 7) ∷ Int (pos 0) ∷ [])
unfolding java meanings opened int_wrap
subclass_first = refl

-- class B { static int s = A.s; } class A extends B { static int s = 7; }: begun by the superclass, which waits for
-- its subclass
superclass_begins : load (of_classes (class None (begins_as 0 (variable 1) ∷ []) [] ∷ class (Some (class_number 0)) (begins_as 1 (number (pos 7)) ∷ []) [] ∷ [])) [] ≡
    ends_with (Int (pos 7) ∷ Int (pos 7) ∷ [])
unfolding java meanings opened int_wrap
superclass_begins = refl

-- nodes that start class B { static { A.s = 5; } }, behind their unit and before their parts

abbrev sets_five : List CoreMethod → CoreClass
sets_five methods = class None (initializer true (sets 0 (number (pos 5)) ∷ []) ∷ []) methods

-- class A { static { s = B.g(s); } }, where B has static int g(int x) { return x; }: the argument is evaluated after
-- the start
calls : load (of_classes (class None (begins_as 0 (expr (CallExact (maybe_core None) (class_number 1) 0 (cores (variable 0 ∷ [])))) ∷ []) []
    ∷ sets_five (method true int (local_of int ∷ []) (body (gives (local 0) ∷ [])) ∷ []) ∷ [])) [] ≡
    ends_with (Int (pos 5) ∷ Int (pos 0) ∷ [])
unfolding java meanings opened int_wrap
calls = refl

-- class A { static { B.s = s; } } and class A { static { B.s += s; } }
assigns : load (of_classes (class None (initializer true (sets 1 (variable 0) ∷ []) ∷ []) [] ∷ sets_five [] ∷ [])) [] ≡ ends_with (Int (pos 5) ∷ Int (pos 5) ∷ [])
unfolding java meanings opened int_wrap
assigns = refl

updates : load (of_classes (class None (initializer true (does (expr (Update (variable 1) Add (maybe_core (Some (variable 0))) false)) ∷ []) ∷ []) [] ∷ sets_five [] ∷ [])) [] ≡
    ends_with (Int (pos 5) ∷ Int (pos 5) ∷ [])
unfolding java meanings opened int_wrap
updates = refl

-- class A { static { new B(); s = s + 1; } }
makes : load (of_classes (class None (initializer true (does (expr (New (class_number 1) 0 (cores []) [] nowhere)) ∷ sets 0 (increased (variable 0)) ∷ []) ∷ []) [] ∷ sets_five (constructor ∷ []) ∷ [])) [] ≡
    Some (Loaded (record { objects = Instance (class_number 1) [] ∷ []; statics = Int (pos 6) ∷ Int (pos 0) ∷ [] }))
unfolding java meanings opened int_wrap
makes = refl

-- class A { static { s = s + 1; } } alone: B is started behind A
starts_none : load (of_classes (class None (begins_as 0 (increased (variable 0)) ∷ []) [] ∷ sets_five [] ∷ [])) [] ≡ ends_with (Int (pos 5) ∷ Int (pos 0) ∷ [])
unfolding java meanings opened int_wrap
starts_none = refl

-- class A { static { try { B.f(); } catch (A a) { s = 1; } } }
abbrev calls_f : Core
calls_f = expr (CallExact (maybe_core None) (class_number 1) 0 (cores []))

abbrev catches_a : CoreClass
catches_a = class None (initializer true (statement (Try (body (does calls_f ∷ [])) (core_catches (catch 0 (class_number 0) nowhere (body (sets 0 (number (pos 1)) ∷ [])) ∷ [])) (maybe_stmt None)) ∷ []) ∷ [])
    (constructor ∷ [])

-- new A()
abbrev throws_a : CoreStmt
throws_a = statement (Throw (expr (New (class_number 0) 0 (cores []) [] nowhere)))

abbrev f : List CoreStmt → CoreMethod
f parts = method true void [] (body parts)

-- class B { static { throw new A(); } static void f() { } }: the exception passes by the catch
thrown_in_start : load (of_classes (catches_a ∷ class None (initializer true (throws_a ∷ []) ∷ []) (f [] ∷ []) ∷ [])) [] ≡ Some (ThrownIn (class_number 1))
unfolding java meanings opened int_wrap
thrown_in_start = refl

-- class B { static void f() { throw new A(); } }: out of a method it comes to the catch
thrown_by_method : load (of_classes (catches_a ∷ class None [] (f (throws_a ∷ []) ∷ []) ∷ [])) [] ≡
    Some (Loaded (record { objects = Instance (class_number 0) [] ∷ []; statics = Int (pos 1) ∷ Int (pos 0) ∷ [] }))
unfolding java meanings opened int_wrap
thrown_by_method = refl

-- class A { static { throw new A(); } }
thrown_in_itself : load (of_classes (class None (initializer true (throws_a ∷ []) ∷ []) (constructor ∷ []) ∷ [])) [] ≡ Some (ThrownIn (class_number 0))
unfolding java meanings opened int_wrap
thrown_in_itself = refl

-- class A { static { try { throw new A(); } catch (A a) { s = 1; } } }: a catch within the initializer takes it
caught_within : load (of_classes (class None (initializer true (statement (Try (body (throws_a ∷ [])) (core_catches (catch 0 (class_number 0) nowhere (body (sets 0 (number (pos 1)) ∷ [])) ∷ [])) (maybe_stmt None)) ∷ []) ∷ []) (constructor ∷ []) ∷ [])) [] ≡
    Some (Loaded (record { objects = Instance (class_number 0) [] ∷ []; statics = Int (pos 1) ∷ [] }))
unfolding java meanings opened int_wrap
caught_within = refl

-- class A { static { B.f(); } } class B extends C { static int s = 1; static void f() { } } class C
-- { static int s = 1; }: A's Block, Do and call; C's Block, Do, Assign and Const; B's four; and f's Block
abbrev three : CoreProgram
three = of_classes (class None (initializer true (does calls_f ∷ []) ∷ []) [] ∷ class (Some (class_number 2)) (begins_as 1 (number (pos 1)) ∷ []) (f [] ∷ []) ∷ class None (begins_as 2 (number (pos 1)) ∷ []) [] ∷ [])

spent_outside : end_of (load_within 2 three []) ≡ Some (SpentIn (class_number 0))
unfolding java meanings opened int_wrap
spent_outside = refl

spent_in_superclass : end_of (load_within 6 three []) ≡ Some (SpentIn (class_number 2))
unfolding java meanings opened int_wrap
spent_in_superclass = refl

spent_in_class : end_of (load_within 7 three []) ≡ Some (SpentIn (class_number 1))
unfolding java meanings opened int_wrap
spent_in_class = refl

-- the method that A calls is in A again
spent_in_method : end_of (load_within 11 three []) ≡ Some (SpentIn (class_number 0))
unfolding java meanings opened int_wrap
spent_in_method = refl

not_spent : end_of (load_within 12 three []) ≡ ends_with (Int (pos 0) ∷ Int (pos 1) ∷ Int (pos 1) ∷ [])
unfolding java meanings opened int_wrap
not_spent = refl

-- static { int n; n = 4; s = n; } static { int m; s = s + m; }: each initializer has locals of its own, at their
-- defaults
own_locals : load (of_classes (class None (initializer true (does (expr (Assign (local 0) (number (pos 4)))) ∷ sets 0 (local 0) ∷ []) ∷ initializer true (sets 0 (expr (Binary Add (variable 0) (local 0))) ∷ []) ∷ []) [] ∷ [])) [] ≡
    ends_with (Int (pos 4) ∷ [])
unfolding java meanings opened int_wrap
own_locals = refl

-- an initializer of instances doesn't run
of_instances : load (of_classes (class None (initializer false (sets 0 (number (pos 4)) ∷ []) ∷ []) [] ∷ [])) [] ≡ ends_with (Int (pos 0) ∷ [])
unfolding java meanings opened int_wrap
of_instances = refl

-- static final int n = 7; static final String t = "cd"; static String u; over two devices, with the constant strings
-- "ab" and "cd"
abbrev with_constant : Option Core → CoreField
with_constant constant = record static_field { constant = constant }

begins : world_before (record { classes = record (class None [] []) { fields = with_constant (Some (number (pos 7))) ∷ with_constant (Some (expr (Text (codes "cd") []))) ∷ static_field ∷ [] } ∷ []; texts = codes "ab" ∷ codes "cd" ∷ [] }) (class_number 8 ∷ class_number 9 ∷ []) ≡
    record {
      objects = Cap 0 (class_number 8) ∷ Cap 1 (class_number 9) ∷ TextObject (codes "ab") ∷ TextObject (codes "cd") ∷ [];
      statics = Int (pos 7) ∷ reference 3 ∷ Int (pos 0) ∷ reference 2 ∷ reference 3 ∷ [];
    }
begins = refl
