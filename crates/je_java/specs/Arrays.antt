-- Arrays (JLS 10, 15.10, 15.13), in the steps of Steps.antt.
use Rattle.std.specs.Prelude.{ℕ, zero, suc, ◌+◌, ◌-◌, ◌*◌, ℤ, pos, negsuc, List, [], ◌∷◌, ◌++◌, length, Option, Some, None, nat_lt, if◌then◌else◌}
use Rattle.std.specs.Int.{w32, int_wrap}
use Rattle.je_core.specs.Defaults.{default_of}
use Rattle.je_core.specs.declared.object.Obj.TheVariants.{Array}
use Rattle.je_core.specs.declared.types.Ty.{Ty}
use Rattle.je_core.specs.declared.value.Value.{Value}
use Rattle.je_core.specs.declared.value.Value.TheVariants.{Int, Ref}
use Rattle.je_core.specs.Core.{CoreProgram}
use Rattle.je_classes.specs.Subtypes.{is_subtype}
use Rattle.je_java.specs.Raised.{array_index, array_store, negative_size}
use Rattle.je_java.specs.Steps.{Computation, Nothing, ret, ◌>>=◌, ◌>>◌, wrong, charge, get_type, get_extent, get_slot, put_slot, new_object, deref, raise, or_raise}

-- how many elements an array has, as an int (JLS 10.7)
unfoldable pub length_of : CoreProgram → Value → Computation Value
length_of program array = do
  object ← deref program array
  extent ← get_extent object
  ret (Int (int_wrap w32 (pos extent.count)))

abbrev pub place_within : ℕ → ℤ → Option ℕ
place_within count (pos at) = if nat_lt at count then Some at else None
place_within count (negsuc n) = None

-- the place of an element, within the bounds (JLS 10.4)
abbrev pub place_of : CoreProgram → ℕ → Value → Computation ℕ
place_of program count (Int z) = or_raise program array_index (place_within count z)
place_of program count _ = wrong

-- JLS 15.13.1
unfoldable pub read_element : CoreProgram → Value → Value → Computation Value
read_element program array index = do
  object ← deref program array
  extent ← get_extent object
  at ← place_of program extent.count index
  get_slot object at

-- whether a value may stand among elements of a type: a reference is tested (JLS 10.10)
abbrev pub storable : CoreProgram → Ty → Value → Computation Nothing
storable program element (Ref object) = do
  own ← get_type object
  if is_subtype program own element then ret tt else raise program array_store
storable program element _ = ret tt

-- JLS 15.26.1
unfoldable pub write_element : CoreProgram → Value → Value → Value → Computation Value
write_element program array index value = do
  object ← deref program array
  extent ← get_extent object
  at ← place_of program extent.count index
  storable program extent.element value
  put_slot object at value

-- JLS 15.10.1

-- a length, which is not below zero
abbrev pub count_of : CoreProgram → Value → Computation ℕ
count_of program (Int (pos n)) = ret n
count_of program (Int (negsuc n)) = raise program negative_size
count_of program _ = wrong

abbrev pub counts_of : CoreProgram → List Value → Computation (List ℕ)
counts_of program [] = ret []
counts_of program (v ∷ vs) = do
  n ← count_of program v
  ns ← counts_of program vs
  ret (n ∷ ns)

-- how many elements all the arrays have that are made of one another
abbrev pub elements_of : List ℕ → ℕ
elements_of [] = 0
elements_of (n ∷ ns) = n + n * elements_of ns

-- the type of an array's elements
abbrev pub element_of : Ty → Ty
element_of ty = record { base = ty.base; dims = ty.dims - 1 }

-- as many values one after another, and then what is done with them
abbrev pub repeated : ℕ → Computation Value → (List Value → Computation Value) → List Value → Computation Value
repeated zero m go done = go done
repeated (suc n) m go done = do
  value ← m
  repeated n m go (done ++ value ∷ [])

abbrev pub filled : Ty → List Value → Computation Value
filled element values = do
  object ← new_object (Array element values)
  ret (Ref object)

-- an array of a type, whose elements are arrays again as long as there are lengths; the elements are made first
abbrev pub nested : Ty → List ℕ → Computation Value
nested ty [] = ret (default_of ty)
nested ty (n ∷ ns) = repeated n (nested (element_of ty) ns) (filled (element_of ty)) []

-- all elements are paid for before any array is made
unfoldable pub make_arrays : CoreProgram → Ty → List Value → Computation Value
make_arrays program ty values = do
  counts ← counts_of program values
  charge (elements_of counts)
  nested ty counts

-- an array of these values (JLS 10.6)
unfoldable pub array_from : Ty → List Value → Computation Value
array_from ty values = do
  charge (length values)
  filled (element_of ty) values
