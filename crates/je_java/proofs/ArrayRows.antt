-- Worked rows on arrays (JLS 10, 15.10, 15.13): what they come to, and what they cost.
use Rattle.std.proofs.Common.{◌≡◌, ℕ, List, [], ◌∷◌, replicate, Some, None, refl}
use Rattle.std.specs.Prelude.{pos, negsuc, true, false}
use Rattle.std.specs.Int.{int_wrap}
use Rattle.je_core.specs.declared.object.Obj.{Obj}
use Rattle.je_core.specs.declared.object.Obj.TheVariants.{Instance, Array}
use Rattle.je_core.specs.declared.types.Ty.{Ty}
use Rattle.je_core.specs.declared.value.Value.{Value}
use Rattle.je_core.specs.declared.value.Value.TheVariants.{Int, Bool as Truth, Null, Ref}
use Rattle.je_core.specs.declared.expr.BinOp.TheVariants.{Add}
use Rattle.je_core.specs.Core.{Core, Index, Length, Assign, Update, Binary, InstanceOf, NewArray, ArrayOf, node, cores, maybe_core}
use Rattle.je_classes.specs.Hierarchy.{library_class, object_class, is_below}
use Rattle.je_classes.specs.Members.{constructor_place}
use Rattle.je_classes.specs.Subtypes.{array_of, is_subtype}
use Rattle.je_java.specs.Raised.{null_pointer, array_index, array_store, negative_size}
use Rattle.je_java.specs.Steps.{Done, Thrown, Spent}
use Rattle.je_java.specs.Meaning.{java, meanings}
use Rattle.je_java.specs.way.Opened.{opened}
use Rattle.je_java.proofs.Rows.{nowhere, int, expr, constant, local, does, gives, after, empty, class_number, tries, type_of, new_of}

abbrev ints : Ty
ints = array_of int

abbrev zero_int : Value
zero_int = Int (pos 0)

abbrev number : ℕ → Core
number n = constant (Int (pos n))

abbrev minus_one : Core
minus_one = constant (Int (negsuc 0))

abbrev new_array : Ty → List Core → Core
new_array ty lengths = node (NewArray (cores lengths)) ty nowhere nowhere

abbrev element : Core → Core → Core
element array index = expr (Index array index)

abbrev reference_to : ℕ → Value
reference_to n = Ref (record { 0 = n })

abbrev exception : ℕ → Obj
exception n = Instance (class_number n) []

-- a = new int[2]; a[1] = 7; return a[1] + a.length;: the Block, 4 and the 2 elements, 5, and 7
elements : tries 1000000 (does (expr (Assign (local 1) (new_array ints (number 2 ∷ [])))) ∷ does (expr (Assign (element (local 1) (number 1)) (number 7))) ∷ gives (expr (Binary Add (element (local 1) (number 1)) (expr (Length (local 1))))) ∷ []) [] ≡
    Done (Some (Int (pos 9))) (after (Array int (zero_int ∷ Int (pos 7) ∷ []) ∷ []) 999981 17)
unfolding java meanings opened int_wrap
elements = refl

-- new int[2][3]: the Block, Return, NewArray and 2 Const, and the 8 elements; the inner arrays are made first
nested_arrays : tries 1000000 (gives (new_array (array_of ints) (number 2 ∷ number 3 ∷ [])) ∷ []) [] ≡
    Done (Some (reference_to 2)) (after (Array int (replicate 3 zero_int) ∷ Array int (replicate 3 zero_int) ∷ Array ints (reference_to 0 ∷ reference_to 1 ∷ []) ∷ []) 999987 5)
unfolding java meanings opened
nested_arrays = refl

-- new int[2][]
without_inner : tries 1000000 (gives (new_array (array_of ints) (number 2 ∷ [])) ∷ []) [] ≡ Done (Some (reference_to 0)) (after (Array ints (Null ∷ Null ∷ []) ∷ []) 999994 4)
unfolding java meanings opened
without_inner = refl

-- { 1, 2 }: the Block, Return, ArrayOf, 2 Const, and the 2 elements
of_values : tries 1000000 (gives (node (ArrayOf (cores (number 1 ∷ number 2 ∷ []))) ints nowhere nowhere) ∷ []) [] ≡ Done (Some (reference_to 0)) (after (Array int (Int (pos 1) ∷ Int (pos 2) ∷ []) ∷ []) 999993 5)
unfolding java meanings opened
of_values = refl

-- new int[1][-1], in a program whose last class is NegativeArraySizeException: both lengths are evaluated
negative_length : tries 1000000 (gives (new_array (array_of ints) (number 1 ∷ minus_one ∷ [])) ∷ []) (replicate 31 empty) ≡ Thrown (record { 0 = 0 }) (after (exception 33 ∷ []) 999995 5)
unfolding java meanings opened negative_size library_class
negative_length = refl

-- new int[1000000000] with fewer units
too_dear : tries 1000 (gives (new_array ints (number 1000000000 ∷ [])) ∷ []) [] ≡ Spent (record (after [] 996 4) { own = record { this = Null; locals = Int (pos 5) ∷ Null ∷ [] } })
unfolding java meanings opened
too_dear = refl

-- new int[2][2] and new int[2][-1], read as elements, in a program whose last class is ArrayIndexOutOfBoundsException

index_past : tries 1000000 (gives (element (new_array ints (number 2 ∷ [])) (number 2)) ∷ []) (replicate 34 empty) ≡
    Thrown (record { 0 = 1 }) (after (Array int (zero_int ∷ zero_int ∷ []) ∷ exception 36 ∷ []) 999992 6)
unfolding java meanings opened array_index library_class
index_past = refl

index_below : tries 1000000 (gives (element (new_array ints (number 2 ∷ [])) minus_one) ∷ []) (replicate 34 empty) ≡
    Thrown (record { 0 = 1 }) (after (Array int (zero_int ∷ zero_int ∷ []) ∷ exception 36 ∷ []) 999992 6)
unfolding java meanings opened array_index library_class
index_below = refl

-- an element of null: the index is evaluated first
element_of_null : tries 1000000 (gives (element (constant Null) (number 2)) ∷ []) (replicate 32 empty) ≡ Thrown (record { 0 = 0 }) (after (exception 34 ∷ []) 999995 5)
unfolding java meanings opened null_pointer library_class
element_of_null = refl

-- a = new F[1]; a[0] = new E();, which is above F, in a program whose last class is ArrayStoreException; and new F()

unfit_store : tries 1000000 (does (expr (Assign (local 1) (new_array (array_of (type_of 2)) (number 1 ∷ [])))) ∷ does (expr (Assign (element (local 1) (number 0)) (new_of 1))) ∷ []) (replicate 26 empty) ≡
    Thrown (record { 0 = 2 }) (after (Array (type_of 2) (Null ∷ []) ∷ Instance (class_number 1) [] ∷ exception 28 ∷ []) 999988 11)
unfolding java meanings opened is_subtype is_below object_class library_class array_store
unfit_store = refl

fit_store : tries 1000000 (does (expr (Assign (local 1) (new_array (array_of (type_of 1)) (number 1 ∷ [])))) ∷ does (expr (Assign (element (local 1) (number 0)) (new_of 2))) ∷ []) [] ≡
    Done (Some zero_int) (after (Array (type_of 1) (reference_to 1 ∷ []) ∷ Instance (class_number 2) [] ∷ []) 999987 12)
unfolding java meanings opened is_subtype is_below constructor_place object_class library_class
fit_store = refl

-- a = new int[1]; return a[0]++;
counts_element : tries 1000000 (does (expr (Assign (local 1) (new_array ints (number 1 ∷ [])))) ∷ gives (expr (Update (element (local 1) (number 0)) Add (maybe_core None) true)) ∷ []) [] ≡
    Done (Some zero_int) (after (Array int (Int (pos 1) ∷ []) ∷ []) 999990 9)
unfolding java meanings opened int_wrap
counts_element = refl

-- a[5] += 1 throws before the operand begins
update_past : tries 1000000 (does (expr (Assign (local 1) (new_array ints (number 1 ∷ [])))) ∷ gives (expr (Update (element (local 1) (number 5)) Add (maybe_core (Some (number 1))) false)) ∷ []) (replicate 34 empty) ≡
    Thrown (record { 0 = 1 }) (after (Array int (zero_int ∷ []) ∷ exception 36 ∷ []) 999990 9)
unfolding java meanings opened array_index library_class
update_past = refl

-- new F[0] instanceof E[]

array_instance : tries 1000000 (gives (expr (InstanceOf (new_array (array_of (type_of 2)) (number 0 ∷ [])) (array_of (type_of 1)))) ∷ []) [] ≡ Done (Some (Truth true)) (after (Array (type_of 2) [] ∷ []) 999995 5)
unfolding java meanings opened is_subtype is_below object_class library_class
array_instance = refl
