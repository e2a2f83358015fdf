-- What a member of a library class is called with, and which of several members a signature is.
use Rattle.std.specs.Prelude.{ℕ, zero, suc, ℤ, Bool, List, [], ◌∷◌, Option, Some, None, slice_get, if◌then◌else◌}
use Rattle.std.specs.Str.{bytes_eq}
use Rattle.je_core.specs.declared.value.ObjId.{ObjId}
use Rattle.je_core.specs.declared.value.Value.{Value}
use Rattle.je_core.specs.declared.value.Value.TheVariants.{Bool as Truth, Char, Int, Long, Null, Ref}
use Rattle.je_core.specs.Core.{CoreProgram}
use Rattle.je_java.specs.Steps.{Computation, ret, ◌>>=◌, wrong, need, deref, get_extent, get_slot, get_units}

-- ---- arguments, by their places

abbrev pub int_in : Option Value → Option ℤ
int_in (Some (Int number)) = Some number
int_in _ = None

abbrev pub long_in : Option Value → Option ℤ
long_in (Some (Long number)) = Some number
long_in _ = None

abbrev pub char_in : Option Value → Option ℕ
char_in (Some (Char unit)) = Some unit
char_in _ = None

abbrev pub truth_in : Option Value → Option Bool
truth_in (Some (Truth holds)) = Some holds
truth_in _ = None

abbrev pub int_argument : List Value → ℕ → Computation ℤ
int_argument given at = need (int_in (slice_get given at))

abbrev pub long_argument : List Value → ℕ → Computation ℤ
long_argument given at = need (long_in (slice_get given at))

abbrev pub char_argument : List Value → ℕ → Computation ℕ
char_argument given at = need (char_in (slice_get given at))

abbrev pub truth_argument : List Value → ℕ → Computation Bool
truth_argument given at = need (truth_in (slice_get given at))

abbrev pub argument : List Value → ℕ → Computation Value
argument given at = need (slice_get given at)

-- the units of a String that isn't null
abbrev pub text_argument : CoreProgram → List Value → ℕ → Computation (List ℕ)
text_argument program given at = do
  value ← argument given at
  object ← deref program value
  get_units object

abbrev pub units_unless_null : Value → Computation (Option (List ℕ))
units_unless_null (Ref object) = do
  units ← get_units object
  ret (Some units)
units_unless_null Null = ret None
units_unless_null _ = wrong

-- the units of a String, none where it is null
abbrev pub text_or_null : List Value → ℕ → Computation (Option (List ℕ))
text_or_null given at = do
  value ← argument given at
  units_unless_null value

-- so many slots of an object, from a place on
abbrev pub slots_from : ObjId → ℕ → ℕ → Computation (List Value)
slots_from object zero at = ret []
slots_from object (suc count) at = do
  value ← get_slot object at
  values ← slots_from object count (suc at)
  ret (value ∷ values)

-- the elements of an array that isn't null
abbrev pub elements_argument : CoreProgram → List Value → ℕ → Computation (List Value)
elements_argument program given at = do
  value ← argument given at
  object ← deref program value
  extent ← get_extent object
  slots_from object extent.count 0

-- ---- members

-- a member's signature, and what a call of it does
abbrev pub Entry : Type 0
Entry = List ℕ × Computation Value

-- what the member of a signature does; another one does what is otherwise
abbrev pub entry_of : List ℕ → List Entry → Computation Value → Computation Value
entry_of signature [] otherwise = otherwise
entry_of signature (entry ∷ entries) otherwise = if bytes_eq entry.0 signature then entry.1 else entry_of signature entries otherwise
