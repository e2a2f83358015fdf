-- Worked rows on constructors (JLS 8.8.7, 12.5): in which order bodies and initializers run, how often, and what they cost.
use Rattle.std.proofs.Common.{◌≡◌, ℕ, List, [], ◌∷◌, Some, None, refl}
use Rattle.std.specs.Prelude.{pos, codes, true, false, Option}
use Rattle.std.specs.Int.{int_wrap}
use Rattle.je_core.specs.declared.object.Obj.{Obj}
use Rattle.je_core.specs.declared.object.Obj.TheVariants.{Instance}
use Rattle.je_core.specs.declared.types.ClassId.{ClassId}
use Rattle.je_core.specs.declared.value.Value.{Value}
use Rattle.je_core.specs.declared.value.Value.TheVariants.{Int, Ref}
use Rattle.je_core.specs.declared.expr.BinOp.TheVariants.{Add, Mul}
use Rattle.je_core.specs.Core.{Core, This, Field, Static, Assign, Binary, CallVirtual, CallExact, CoreStmt, CoreField, CoreInitializer, CoreMethod, CoreClass, CoreProgram, cores, maybe_core}
use Rattle.je_classes.specs.Members.{constructor_place}
use Rattle.je_java.specs.declared.call.Receiver.TheVariants as receiver
use Rattle.je_java.specs.Steps.{Answer, Done}
use Rattle.je_java.specs.Meaning.{java, meanings, call}
use Rattle.je_java.specs.way.Opened.{library_opened}
use Rattle.je_java.proofs.Rows.{nowhere, int, void, expr, constant, local, local_of, field, does, gives, body, method, class_of_methods, class_number, nothing, after}
use Rattle.je_java.proofs.library.Program.{program, word}

-- `s`, a static field of a class
abbrev digits_of : ClassId → Core
digits_of class = expr (Static (maybe_core None) class 0)

-- s = s * 10 + e;: 6 nodes beside those of e
abbrev adds : ClassId → Core → CoreStmt
adds class e = does (expr (Assign (digits_of class) (expr (Binary Add (expr (Binary Mul (digits_of class) (constant (Int (pos 10))))) e))))

abbrev digit : ℕ → Core
digit n = constant (Int (pos n))

abbrev a : ClassId
a = class_number 39

abbrev initializer : CoreStmt → CoreInitializer
initializer part = record { is_static = false; span = nowhere; locals = []; body = body (part ∷ []) }

abbrev notes : ℕ → CoreInitializer
notes n = initializer (adds a (digit n))

abbrev constructor : List CoreStmt → CoreMethod
constructor parts = record (method false void [] (body parts)) { name = word (codes "new") }

abbrev of_int : List CoreStmt → CoreMethod
of_int parts = record (constructor parts) { params = int ∷ []; locals = local_of int ∷ [] }

abbrev class : ClassId → List CoreField → List CoreInitializer → List CoreMethod → CoreClass
class above fields initializers methods = record (class_of_methods methods) { superclass = Some above; fields = fields; initializers = initializers }

-- class A { static int s; { s = s * 10 + 1; } A() { s = s * 10 + 2; } }
-- class B extends A { { s = s * 10 + 3; } B() { s = s * 10 + 4; } }
-- class C extends B { { s = s * 10 + 5; } { s = s * 10 + 6; } C() { s = s * 10 + 7; } C(int n) { this(); s = s * 10 + n; } }
abbrev three_classes : CoreProgram
three_classes = program (
    class (class_number 0) (field true ∷ []) (notes 1 ∷ []) (constructor (adds a (digit 2) ∷ []) ∷ []) ∷
    class a [] (notes 3 ∷ []) (constructor (adds a (digit 4) ∷ []) ∷ []) ∷
    class (class_number 40) [] (notes 5 ∷ notes 6 ∷ [])
    (constructor (adds a (digit 7) ∷ [])
    ∷ of_int (does (expr (CallExact (maybe_core (Some (expr This))) (class_number 41) 0 (cores []))) ∷ adds a (local 0) ∷ []) ∷ []) ∷ [])

-- a new object of a class, where `s` begins at a value
abbrev makes : CoreProgram → ℕ → ℕ → List Value → ℕ → Answer
makes p of at given s = call p 1000000 receiver.Fresh (class_number of) at given (record { objects = []; statics = Int (pos s) ∷ [] }) nothing

abbrev made : Obj → ℕ → ℕ → ℕ → Answer
made object s units begun = Done (Some (Ref (record { 0 = 0 }))) (record (after [] units begun) { world = record { objects = object ∷ []; statics = Int (pos s) ∷ [] } })

-- new C(): the superclass's constructor comes first, then the initializers, then the rest of the body. Each body, and each
-- initializer, is a Block and 7 nodes; the calls that nobody wrote cost nothing
from_above : makes three_classes 41 0 [] 0 ≡ made (Instance (class_number 41) []) 1234567 999944 56
unfolding java meanings library_opened constructor_place int_wrap
from_above = refl

-- new C(8): the initializers run once; this() costs nothing
once : makes three_classes 41 1 (Int (pos 8) ∷ []) 0 ≡ made (Instance (class_number 41) []) 12345678 999936 64
unfolding java meanings library_opened constructor_place int_wrap
once = refl

-- get(), on this
abbrev gets : Core
gets = expr (CallVirtual (expr This) a 1 (cores []))

abbrev getter : Core → CoreMethod
getter e = record (method false int [] (body (gives e ∷ []))) { name = word (codes "get") }

abbrev y : Core
y = expr (Field (expr This) (class_number 40) 0)

-- class D { static int s; D() { s = s * 10 + get(); } int get() { return 1; } }
-- class E extends D { int y = 5; E(int n) { s = s * 10 + get(); } int get() { return y; } }
abbrev two_classes : CoreProgram
two_classes = program (
    class (class_number 0) (field true ∷ []) [] (constructor (adds a gets ∷ []) ∷ getter (digit 1) ∷ []) ∷
    class a (field false ∷ []) (initializer (does (expr (Assign y (digit 5)))) ∷ []) (of_int (adds a gets ∷ []) ∷ getter y ∷ []) ∷ [])

-- new E(3): the superclass's constructor sees the field's default by the method that E has: the slot, the Block, D's Block and 12,
-- the initializer's 5, and 12
before_initializer : makes two_classes 40 0 (Int (pos 3) ∷ []) 9 ≡ made (Instance (class_number 40) (Int (pos 5) ∷ [])) 905 999968 31
unfolding java meanings library_opened constructor_place int_wrap
before_initializer = refl
