-- Worked rows on dispatch and slots (JLS 8.3, 8.4.8, 15.12.4): which method an object's class has for a method, when its
-- arguments are tested, and where a superclass's fields stand.
use Rattle.std.proofs.Common.{◌≡◌, ℕ, List, [], ◌∷◌, ◌++◌, replicate, Some, None, refl}
use Rattle.std.specs.Prelude.{pos, true, false, Option}
use Rattle.je_core.specs.declared.object.Obj.{Obj}
use Rattle.je_core.specs.declared.object.Obj.TheVariants.{Instance}
use Rattle.je_core.specs.declared.program.Sort.{Sort}
use Rattle.je_core.specs.declared.program.Sort.TheVariants as sort
use Rattle.je_core.specs.declared.types.ClassId.{ClassId}
use Rattle.je_core.specs.declared.types.Ty.{Ty}
use Rattle.je_core.specs.declared.value.ObjId.{ObjId}
use Rattle.je_core.specs.declared.value.Value.{Value}
use Rattle.je_core.specs.declared.value.Value.TheVariants.{Int, Null, Ref}
use Rattle.je_core.specs.Core.{Field, This, CallVirtual, CoreField, CoreMethod, CoreClass, cores}
use Rattle.je_classes.specs.Hierarchy.{object_class, library_class, is_below}
use Rattle.je_classes.specs.Subtypes.{class_type, is_subtype}
use Rattle.je_java.specs.declared.call.Receiver.TheVariants as receiver
use Rattle.je_java.specs.Raised.{null_pointer, class_cast}
use Rattle.je_java.specs.Steps.{Answer, Done, Thrown, Wrong}
use Rattle.je_java.specs.Meaning.{java, meanings, call}
use Rattle.je_java.specs.way.Opened.{opened}
use Rattle.je_java.proofs.Rows.{int, expr, constant, local, local_of, field, gives, body, method, class_of_methods, empty, world, nothing, after}

abbrev c : ℕ → ClassId
c n = record { 0 = n }

abbrev o : ℕ → ObjId
o n = record { 0 = n }

abbrev called : ℕ → List Ty → CoreMethod → CoreMethod
called name params m = record m { name = record { 0 = name }; params = params }

-- a method whose value tells it
abbrev tells : ℕ → ℕ → List Ty → CoreMethod
tells n name params = called name params (method false int [] (body (gives (constant (Int (pos n))) ∷ [])))

abbrev without_body : CoreMethod → CoreMethod
without_body m = record m { flags = record m.flags { is_abstract = true }; body = None }

abbrev class_of : Sort → Option ClassId → List ClassId → List CoreField → List CoreMethod → CoreClass
class_of s super interfaces fields methods = record (class_of_methods methods) {
  kind = record { sort = s; is_abstract = false; is_final = false; is_static = false };
  superclass = super;
  interfaces = interfaces;
  fields = fields;
}

-- 0 Object; 1 interface I { int f(); }
-- 2 class A<T> { int x; int f() { return 1; } int g() { return this.f(); } int h(T t) { return 2; } }
-- 3 class B extends A<D> implements I { int y; int f() { return 3; } int h(D d) { return 4; } }, with the bridge from A.h to B.h
-- 4 class D { static int k(Object t) { return ((A) null).h(t); } } 5 class E; then those up to NullPointerException
abbrev classes : List CoreClass
classes =
    class_of sort.Class None [] [] [] ∷
    class_of sort.Interface None [] [] (without_body (tells 0 1 []) ∷ []) ∷
    class_of sort.Class (Some (c 0)) [] (field false ∷ [])
    (tells 1 1 [] ∷ called 2 [] (method false int [] (body (gives (expr (CallVirtual (expr This) (c 2) 0 (cores []))) ∷ []))) ∷ tells 2 3 (class_type (c 0) ∷ []) ∷
    called 4 [] (method false int [] (body (gives (expr (Field (expr This) (c 2) 0)) ∷ []))) ∷ []) ∷
    record (class_of sort.Class (Some (c 2)) (c 1 ∷ []) (field false ∷ [])
    (tells 3 1 [] ∷ tells 4 3 (class_type (c 4) ∷ []) ∷ called 5 [] (method false int [] (body (gives (expr (Field (expr This) (c 3) 0)) ∷ []))) ∷ [])) { bridges = record { method = (c 2, 2); by = (c 3, 1) } ∷ [] } ∷
    class_of sort.Class (Some (c 0)) [] [] (method true int (local_of (class_type (c 0)) ∷ []) (body (gives (expr (CallVirtual (constant Null) (c 2) 2 (cores (local 0 ∷ [])))) ∷ [])) ∷ []) ∷
    (class_of sort.Class (Some (c 0)) [] [] [] ∷ replicate 29 empty)

abbrev objects : List Obj
objects = Instance (c 2) (Int (pos 7) ∷ []) ∷ Instance (c 3) (Int (pos 8) ∷ Int (pos 9) ∷ []) ∷ Instance (c 4) [] ∷ Instance (c 5) [] ∷ []

abbrev runs : ℕ → ℕ → ℕ → List Value → Answer
runs object class at given = call (record { classes = classes; texts = [] }) 1000000 (receiver.Object (o object)) (c class) at given (world objects) nothing

-- Block, Return and Const
abbrev comes_to : ℕ → Answer
comes_to n = Done (Some (Int (pos n))) (after objects 999997 3)

its_own : runs 0 2 0 [] ≡ comes_to 1
unfolding java meanings opened
its_own = refl

overridden : runs 1 2 0 [] ≡ comes_to 3
unfolding java meanings opened
overridden = refl

of_an_interface : runs 1 1 0 [] ≡ comes_to 3
unfolding java meanings opened object_class library_class
of_an_interface = refl

-- g is A's, and what it calls is B's: Block, Return, Call, This, and then 3
inherited : runs 1 2 1 [] ≡ Done (Some (Int (pos 3))) (after objects 999993 7)
unfolding java meanings opened object_class library_class
inherited = refl

-- a D has no such method
not_there : runs 2 1 0 [] ≡ Wrong
unfolding java meanings opened object_class library_class
not_there = refl

-- a D passes, and so does null; an A's own method takes any object
bridged : runs 1 2 2 (Ref (o 2) ∷ []) ≡ comes_to 4
unfolding java meanings opened is_subtype is_below object_class library_class
bridged = refl

bridged_null : runs 1 2 2 (Null ∷ []) ≡ comes_to 4
unfolding java meanings opened is_subtype is_below object_class library_class
bridged_null = refl

-- an E is no D: it comes to no body
bridged_no_instance : runs 1 2 2 (Ref (o 3) ∷ []) ≡ Thrown (o 4) (after (objects ++ Instance (c 29) [] ∷ []) 1000000 0)
unfolding java meanings opened is_subtype is_below object_class library_class class_cast
bridged_no_instance = refl

-- the receiver is tested first: Block, Return, the call, Const and Local
null_first : call (record { classes = classes; texts = [] }) 1000000 receiver.None (c 4) 0 (Ref (o 3) ∷ []) (world objects) nothing ≡
    Thrown (o 4) (after (objects ++ Instance (c 34) [] ∷ []) 999995 5)
unfolding java meanings opened null_pointer library_class
null_first = refl

not_bridged : runs 0 2 2 (Ref (o 3) ∷ []) ≡ comes_to 2
unfolding java meanings opened is_subtype is_below object_class library_class
not_bridged = refl

-- the superclass's field stands first, and the class's own behind it
above : runs 1 2 3 [] ≡ Done (Some (Int (pos 8))) (after objects 999996 4)
unfolding java meanings opened
above = refl

below : runs 1 3 2 [] ≡ Done (Some (Int (pos 9))) (after objects 999996 4)
unfolding java meanings opened
below = refl
