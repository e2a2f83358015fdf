-- Worked rows on calls and creations that come to members of the library (JLS 15.9.4, 15.12.4), and what they cost.
use Rattle.std.proofs.Common.{◌≡◌, ℕ, List, [], ◌∷◌, ◌++◌, Some, None, refl}
use Rattle.std.specs.Prelude.{pos, negsuc, codes, true, false, Option}
use Rattle.std.specs.Int.{int_wrap}
use Rattle.je_core.specs.declared.object.Obj.{Obj}
use Rattle.je_core.specs.declared.object.Obj.TheVariants.{Instance, Array, Text, Builder}
use Rattle.je_core.specs.declared.program.Local.{Local as LocalOf}
use Rattle.je_core.specs.declared.types.ClassId.{ClassId}
use Rattle.je_core.specs.declared.types.Ty.{Ty}
use Rattle.je_core.specs.declared.value.Value.{Value}
use Rattle.je_core.specs.declared.value.Value.TheVariants.{Bool as Truth, Int, Null, Ref}
use Rattle.je_core.specs.Core.{Core, Assign, This, Concat, CallVirtual, CallExact, New, NewArray, CoreStmt, CoreMethod, CoreClass, CoreProgram, node, cores, maybe_core}
use Rattle.je_core.specs.Core as core
use Rattle.je_classes.specs.Subtypes.{class_type, array_of, is_subtype}
use Rattle.je_classes.specs.Hierarchy.{is_below}
use Rattle.je_classes.specs.Members.{constructor_place}
use Rattle.je_table.specs.declared.classes.LibraryClass.{LibraryClass}
use Rattle.je_table.specs.declared.classes.LibraryClass.TheVariants as class
use Rattle.je_java.specs.declared.call.Receiver.TheVariants as receiver
use Rattle.je_java.specs.Raised.{class_cast}
use Rattle.je_java.specs.World.{World}
use Rattle.je_java.specs.Steps.{Answer, Done, Thrown}
use Rattle.je_java.specs.Meaning.{java, meanings, call}
use Rattle.je_java.specs.way.Opened.{library_opened}
use Rattle.je_java.proofs.Rows.{nowhere, int, void, expr, constant, local, local_of, does, gives, body, method, class_of_methods, class_number, nothing, after}
use Rattle.je_java.proofs.library.Program.{program, number, place, reference}

abbrev object : Ty
object = class_type (class_number 0)

abbrev call_of : Core → LibraryClass → List ℕ → List Core → Core
call_of on c signature args = expr (CallVirtual on (number c) (place c signature) (cores args))

abbrev static_call : LibraryClass → List ℕ → List Core → Core
static_call c signature args = expr (CallExact (maybe_core None) (number c) (place c signature) (cores args))

abbrev new : LibraryClass → List ℕ → List Core → Core
new c signature args = expr (New (number c) (place c signature) (cores args) [] nowhere)

abbrev text : List ℕ → Core
text units = expr (core.Text units [])

-- E() { super("ab"); }
abbrev constructor : CoreMethod
constructor = method false void [] (body (does (expr (CallExact (maybe_core (Some (expr This))) (number class.RuntimeException) (place class.RuntimeException (codes "new(String)")) (cores (text (codes "ab") ∷ [])))) ∷ []))

-- behind the library's classes: A with `static Object f(Object o) { .. }`, and E extends RuntimeException
abbrev a_program : List CoreStmt → CoreProgram
a_program parts = record (program (
    record (class_of_methods (method true object (local_of object ∷ []) (body parts) ∷ [])) { fields = []; superclass = Some (class_number 0) } ∷
    record (class_of_methods (constructor ∷ [])) { fields = []; superclass = Some (class_number 26) } ∷ [])) { texts = codes "ab" ∷ codes "b" ∷ [] }

-- the constant strings "ab" and "b"
abbrev strings : List Obj
strings = Text (codes "ab") ∷ Text (codes "b") ∷ []

abbrev a_world : List Obj → World
a_world objects = record { objects = strings ++ objects; statics = reference 0 ∷ reference 1 ∷ [] }

abbrev runs : List CoreStmt → Answer
runs parts = call (a_program parts) 1000000 receiver.None (class_number 39) 0 (Null ∷ []) (a_world []) nothing

abbrev comes_to : Value → List Obj → ℕ → ℕ → Answer
comes_to value objects units begun = Done (Some value) (record (after [] units begun) { world = a_world objects })

-- StringBuilder b = new StringBuilder(); b.append("ab"); return b.toString();: 15 units
builds : runs (does (expr (Assign (local 0) (new class.StringBuilder (codes "new()") []))) ∷
    does (call_of (local 0) class.StringBuilder (codes "append(String)") (text (codes "ab") ∷ [])) ∷
    gives (call_of (local 0) class.StringBuilder (codes "toString()") []) ∷ []) ≡ comes_to (reference 3) (Builder (codes "ab") ∷ Text (codes "ab") ∷ []) 999985 11
unfolding java meanings library_opened
builds = refl

-- Object's `equals` on a String is String's: Block, Return, the call and 2 Text, and the receiver's 2 units
equal_texts : runs (gives (call_of (text (codes "ab")) class.Object (codes "equals(Object)") (text (codes "b") ∷ [])) ∷ []) ≡ comes_to (Truth false) [] 999993 5
unfolding java meanings library_opened
equal_texts = refl

-- on an array it is Object's own
equal_arrays : runs (gives (call_of (node (NewArray (cores (constant (Int (pos 0)) ∷ []))) (array_of int) nowhere nowhere) class.Object (codes "equals(Object)") (text (codes "b") ∷ [])) ∷ []) ≡
    comes_to (Truth false) (Array int [] ∷ []) 999994 6
unfolding java meanings library_opened
equal_arrays = refl

-- Comparable's `compareTo` on a String tests its argument, which is a String
compares : runs (gives (call_of (text (codes "ab")) class.Comparable (codes "compareTo(Object)") (text (codes "b") ∷ [])) ∷ []) ≡ comes_to (Int (negsuc 0)) [] 999993 5
unfolding java meanings library_opened is_subtype is_below int_wrap
compares = refl

-- or throws ClassCastException, before the member costs anything: Block, Return, the call, Text and New
compares_no_text : runs (gives (call_of (text (codes "ab")) class.Comparable (codes "compareTo(Object)") (new class.Object (codes "new()") [] ∷ [])) ∷ []) ≡
    Thrown (record { 0 = 3 }) (record (after [] 999994 5) { world = a_world (Instance (class_number 0) [] ∷ Instance (class_number 29) (Null ∷ []) ∷ []) })
unfolding java meanings library_opened is_subtype is_below class_cast
compares_no_text = refl

-- return new E().getMessage();: Block, Return, the call, New and its slot; the constructor's Block, and Text
message : runs (gives (call_of (expr (New (class_number 40) 0 (cores []) [] nowhere)) class.Throwable (codes "getMessage()") []) ∷ []) ≡
    comes_to (reference 0) (Instance (class_number 40) (reference 0 ∷ []) ∷ []) 999993 6
unfolding java meanings library_opened constructor_place
message = refl

-- return Math.max(3, 5);
static_member : runs (gives (static_call class.Math (codes "max(int,int)") (constant (Int (pos 3)) ∷ constant (Int (pos 5)) ∷ [])) ∷ []) ≡ comes_to (Int (pos 5)) [] 999995 5
unfolding java meanings library_opened
static_member = refl

-- return "b" + new StringBuilder("ab");: Block, Return, Concat, Text, New, Text, 2 units of the builder, 2 of its text, and 3
joined_to_builder : runs (gives (expr (Concat (text (codes "b")) (new class.StringBuilder (codes "new(String)") (text (codes "ab") ∷ [])))) ∷ []) ≡
    comes_to (reference 4) (Builder (codes "ab") ∷ Text (codes "ab") ∷ Text (codes "bab") ∷ []) 999987 6
unfolding java meanings library_opened
joined_to_builder = refl
