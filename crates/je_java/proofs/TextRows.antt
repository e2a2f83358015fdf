-- Worked rows on string concatenation (JLS 15.18.1, 15.26.2): what it comes to, and what it costs.
use Rattle.std.proofs.Common.{◌≡◌, ℕ, List, [], ◌∷◌, ◌++◌, replicate, Some, None, refl}
use Rattle.std.specs.Prelude.{pos, negsuc, codes, true, false}
use Rattle.std.specs.Fmt.{digits}
use Rattle.je_core.specs.declared.object.Obj.{Obj}
use Rattle.je_core.specs.declared.object.Obj.TheVariants.{Instance, Text, Array}
use Rattle.je_core.specs.declared.types.Ty.{Ty}
use Rattle.je_core.specs.declared.value.Value.{Value}
use Rattle.je_core.specs.declared.value.Value.TheVariants.{Int, Long, Char, Bool as Truth, Null, Ref}
use Rattle.je_core.specs.declared.expr.BinOp.TheVariants.{Add}
use Rattle.je_core.specs.Core.{Core, Concat, Assign, Update, CoreStmt, CoreMethod, CoreProgram, node, maybe_core}
use Rattle.je_core.specs.Core as core
use Rattle.je_classes.specs.Hierarchy.{library_class, object_class}
use Rattle.je_classes.specs.Members.{constructor_place}
use Rattle.je_classes.specs.Subtypes.{class_type}
use Rattle.je_java.specs.LibraryClasses.{string_class, to_string_place}
use Rattle.je_java.specs.declared.call.Receiver.TheVariants as receiver
use Rattle.je_java.specs.World.{World}
use Rattle.je_java.specs.Steps.{Answer, Done, Spent, Wrong}
use Rattle.je_java.specs.Meaning.{java, meanings, call}
use Rattle.je_java.specs.way.Opened.{opened}
use Rattle.je_java.proofs.Rows.{nowhere, expr, constant, local, local_of, does, gives, body, method, class_of_methods, class_number, new_of, nothing, after}

abbrev string : Ty
string = class_type (class_number 1)

abbrev reference_to : ℕ → Value
reference_to n = Ref (record { 0 = n })

abbrev text : List ℕ → Core
text units = expr (core.Text units [])

abbrev joined : Core → Core → Core
joined left right = node (Concat left right) string nowhere nowhere

-- Object's methods up to `toString()`, which gives its class variable's text here; String, without members; and a class whose
-- constructor stands behind a `toString()` of its own that gives null
abbrev tells : Core → CoreMethod
tells e = record (method false string [] (body (gives e ∷ []))) { name = record { 0 = 9 } }

abbrev other : CoreMethod
other = method false string [] (body [])

abbrev a_program : List CoreStmt → CoreProgram
a_program parts = record {
  classes =
      record (class_of_methods (record (method true string (local_of string ∷ []) (body parts)) { params = string ∷ [] } ∷ other ∷ other ∷ tells (text (codes "an object")) ∷ [])) { fields = [] } ∷
      record (class_of_methods []) { fields = [] } ∷
      record (class_of_methods (other ∷ tells (constant Null) ∷ [])) { fields = []; superclass = Some (class_number 0) } ∷
      record (class_of_methods (other ∷ [])) { fields = []; superclass = Some (class_number 0) } ∷ [];
  texts = codes "ab" ∷ codes "an object" ∷ [];
}

-- the constant strings "ab" and "an object"
abbrev strings : List Obj
strings = Text (codes "ab") ∷ Text (codes "an object") ∷ []

abbrev a_world : List Obj → World
a_world objects = record { objects = strings ++ objects; statics = reference_to 0 ∷ reference_to 1 ∷ [] }

abbrev runs : ℕ → List CoreStmt → Answer
runs units parts = call (a_program parts) units receiver.None (class_number 0) 0 (Null ∷ []) (a_world []) nothing

abbrev comes_to : Value → List Obj → ℕ → ℕ → Answer
comes_to value objects units begun = Done (Some value) (record (after [] units begun) { world = a_world objects })

-- return "ab" + 12;: Block, Return, Concat, Text and Const, and 4 units
with_number : runs 1000000 (gives (joined (text (codes "ab")) (constant (Int (pos 12)))) ∷ []) ≡ comes_to (reference_to 2) (Text (codes "ab12") ∷ []) 999991 5
unfolding java meanings opened object_class library_class to_string_place string_class digits
with_number = refl

below_zero : runs 1000000 (gives (joined (constant (Long (negsuc 6))) (text (codes "ab"))) ∷ []) ≡ comes_to (reference_to 2) (Text (codes "-7ab") ∷ []) 999991 5
unfolding java meanings opened object_class library_class to_string_place string_class digits
below_zero = refl

with_unit : runs 1000000 (gives (joined (text (codes "ab")) (constant (Char 99))) ∷ []) ≡ comes_to (reference_to 2) (Text (codes "abc") ∷ []) 999992 5
unfolding java meanings opened object_class library_class to_string_place string_class
with_unit = refl

with_truth : runs 1000000 (gives (joined (text (codes "ab")) (constant (Truth false))) ∷ []) ≡ comes_to (reference_to 2) (Text (codes "abfalse") ∷ []) 999988 5
unfolding java meanings opened object_class library_class to_string_place string_class
with_truth = refl

with_null : runs 1000000 (gives (joined (constant Null) (constant Null)) ∷ []) ≡ comes_to (reference_to 2) (Text (codes "nullnull") ∷ []) 999987 5
unfolding java meanings opened object_class library_class to_string_place string_class
with_null = refl

-- the sum is paid for before it is made
too_dear : runs 8 (gives (joined (text (codes "ab")) (constant (Int (pos 12)))) ∷ []) ≡ Spent (record (after [] 3 5) { world = a_world []; own = record { this = Null; locals = Null ∷ [] } })
unfolding java meanings opened object_class library_class to_string_place string_class digits
too_dear = refl

-- an object's `toString()` is called: Block, Return, Concat, Text, New and the constructors' 2 Blocks; then Block, Return and Text,
-- and 11 units
with_object : runs 1000000 (gives (joined (text (codes "ab")) (new_of 3)) ∷ []) ≡
    comes_to (reference_to 3) (Instance (class_number 3) [] ∷ Text (codes "aban object") ∷ []) 999979 10
unfolding java meanings opened constructor_place object_class library_class to_string_place string_class
with_object = refl

-- a `toString()` that gives null
told_null : runs 1000000 (gives (joined (new_of 2) (text (codes "ab"))) ∷ []) ≡
    comes_to (reference_to 3) (Instance (class_number 2) [] ∷ Text (codes "nullab") ∷ []) 999984 10
unfolding java meanings opened constructor_place object_class library_class to_string_place string_class
told_null = refl

-- s += 1; return s; on null: the Block, Do, Update and Const and 5 units, Return and Local
added : runs 1000000 (does (node (Update (local 0) Add (maybe_core (Some (constant (Int (pos 1))))) false) string nowhere nowhere) ∷ gives (local 0) ∷ []) ≡
    comes_to (reference_to 2) (Text (codes "null1") ∷ []) 999989 6
unfolding java meanings opened object_class library_class to_string_place string_class digits
added = refl
