-- What the members of the rows of joee.lib do, each under its signature: a row is as long as the array that it was made of,
-- whose elements it copied, and never changes.
use Rattle.std.specs.Prelude.{ℕ, List, [], ◌∷◌, length, codes}
use Rattle.je_core.specs.declared.object.Obj.TheVariants.{Row}
use Rattle.je_core.specs.declared.types.ClassId.{ClassId}
use Rattle.je_core.specs.declared.value.ObjId.{ObjId}
use Rattle.je_core.specs.declared.value.Value.{Value}
use Rattle.je_core.specs.declared.value.Value.TheVariants.{Int, Ref}
use Rattle.je_core.specs.Core.{CoreProgram}
use Rattle.je_java.specs.Arrays.{place_of}
use Rattle.je_java.specs.Steps.{Computation, ret, ◌>>=◌, ◌>>◌, wrong, charge, deref, get_count, get_slot, new_object}
use Rattle.je_java.specs.library.Arguments.{argument, elements_argument, Entry, entry_of}
use Rattle.text_members.specs.Comparing.{count_as_int}

-- a new row of a class, whose slots are paid for before it is made
unfoldable pub new_row : CoreProgram → ClassId → List Value → Computation Value
new_row program class given = do
  values ← elements_argument program given 0
  charge (length values)
  object ← new_object (Row class values)
  ret (Ref object)

-- as of an array (JLS 15.13.1)
unfoldable pub value_at : CoreProgram → ObjId → ℕ → List Value → Computation Value
value_at program object count given = do
  index ← argument given 0
  at ← place_of program count index
  get_slot object at

abbrev pub static_entries : CoreProgram → ClassId → List Value → List Entry
static_entries program class given =
    (codes "new(Immutable[])", new_row program class given) ∷
    (codes "new(int[])", new_row program class given) ∷
    (codes "new(String[])", new_row program class given) ∷
    []

abbrev pub entries : CoreProgram → ObjId → ℕ → List Value → List Entry
entries program object count given =
    (codes "get(int)", value_at program object count given) ∷
    (codes "size()", ret (Int (count_as_int count))) ∷
    []

abbrev pub on_receiver : CoreProgram → List ℕ → Value → List Value → Computation Value
on_receiver program signature this given = do
  object ← deref program this
  count ← get_count object
  entry_of signature (entries program object count given) wrong

unfoldable pub row_member : CoreProgram → ClassId → List ℕ → Value → List Value → Computation Value
row_member program class signature this given = entry_of signature (static_entries program class given) (on_receiver program signature this given)
