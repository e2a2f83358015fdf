-- The slots of an object, read one after another.
use Rattle.std.specs.Prelude.{ℕ, zero, suc, List, [], ◌∷◌, ◌++◌, Option, Some, None}
use Rattle.je_core.specs.declared.object.Obj.{Obj}
use Rattle.je_core.specs.declared.object.Obj.TheVariants.{Row}
use Rattle.je_core.specs.declared.types.ClassId.{ClassId}
use Rattle.je_core.specs.declared.value.ObjId.{ObjId}
use Rattle.je_core.specs.declared.value.Value.{Value}
use Rattle.je_java.specs.Steps.{Computation, ◌>>=◌, need, wrong}
use Rattle.je_java.specs.World.{slot_of}
use Rattle.je_java.specs.library.Arguments.{slots_from}
use Rattle.je_java.specs.library.Strings.{new_text, units_in_values}
use Rattle.tamed_lib.specs.Outcomes.{make_of}

-- items in front of others, where there are any
abbrev pub in_front : {A : Type 0} → List A → Option (List A) → Option (List A)
in_front front None = None
in_front front (Some items) = Some (front ++ items)

abbrev pub with_first : Option Value → Option (List Value) → Option (List Value)
with_first None values = None
with_first (Some value) values = in_front (value ∷ []) values

-- so many slots of an object, from a place on, where all of them are there
abbrev pub slots_read : List Obj → ObjId → ℕ → ℕ → Option (List Value)
slots_read objects object zero at = Some []
slots_read objects object (suc count) at = with_first (slot_of objects object.0 at) (slots_read objects object count (suc at))

-- the units of chars, where all of these values are chars
abbrev pub units_among : Option (List Value) → Option (List ℕ)
units_among None = None
units_among (Some values) = units_in_values values

-- a new string of chars that were read
unfoldable pub text_of_read : Option (List ℕ) → Computation Value
text_of_read None = wrong
text_of_read (Some units) = new_text units

-- a new row of values that were read
unfoldable pub row_of_read : ClassId → Option (List Value) → Computation Value
row_of_read class None = wrong
row_of_read class (Some values) = make_of (Row class values) values

-- a new string of the chars of an array of so many
unfoldable pub text_of_slots : ObjId → ℕ → Computation Value
text_of_slots object count = do
  values ← slots_from object count 0
  units ← need (units_in_values values)
  new_text units

-- a new row of the elements of an array of so many
unfoldable pub row_of_slots : ClassId → ObjId → ℕ → Computation Value
row_of_slots class object count = do
  values ← slots_from object count 0
  make_of (Row class values) values
