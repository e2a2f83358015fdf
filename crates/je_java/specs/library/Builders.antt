-- What the members of java.lang.StringBuilder do (its page in the Java SE 5 API), each under its signature.
use Rattle.std.specs.Prelude.{ℕ, ℤ, List, [], ◌∷◌, length, Option, Some, None, unwrap_or, codes}
use Rattle.je_core.specs.declared.object.Obj.TheVariants.{Builder}
use Rattle.je_core.specs.declared.value.ObjId.{ObjId}
use Rattle.je_core.specs.declared.value.Value.{Value}
use Rattle.je_core.specs.declared.value.Value.TheVariants.{Int, Null, Ref}
use Rattle.je_core.specs.Core.{CoreProgram}
use Rattle.je_java.specs.Raised.{string_index, illegal_state}
use Rattle.je_java.specs.Steps.{Computation, Nothing, ret, ◌>>=◌, ◌>>◌, wrong, charge, deref, get_units, put_units, new_object, or_raise}
use Rattle.je_java.specs.Texts.{null_text}
use Rattle.je_java.specs.library.Arguments.{int_argument, long_argument, char_argument, truth_argument, text_argument, text_or_null, Entry, entry_of}
use Rattle.je_java.specs.library.Strings.{new_text, char_at}
use Rattle.text_members.specs.Changes.{appended, with_unit, without_unit}
use Rattle.text_members.specs.Comparing.{count_as_int}
use Rattle.text_numbers.specs.Writing.{decimal_text, truth_text, unit_text}

-- ---- constructors, which make their object

-- a new builder, whose units are paid for before it is made
unfoldable pub new_builder : List ℕ → Computation Value
new_builder units = do
  charge (length units)
  object ← new_object (Builder units)
  ret (Ref object)

unfoldable pub builder_of_text : CoreProgram → List Value → Computation Value
builder_of_text program given = do
  units ← text_argument program given 0
  new_builder units

-- ---- on a receiver that holds these units

-- behind the units of a builder, which are paid for before they are added; where there is no room for them, it throws
unfoldable pub append : CoreProgram → ObjId → List ℕ → List ℕ → Computation Value
append program object units text = do
  new ← or_raise program illegal_state (appended units text)
  charge (length text)
  put_units object new
  ret (Ref object)

unfoldable pub append_text : CoreProgram → ObjId → List ℕ → List Value → Computation Value
append_text program object units given = do
  text ← text_or_null given 0
  append program object units (unwrap_or text null_text)

unfoldable pub append_truth : CoreProgram → ObjId → List ℕ → List Value → Computation Value
append_truth program object units given = do
  holds ← truth_argument given 0
  append program object units (truth_text holds)

unfoldable pub append_char : CoreProgram → ObjId → List ℕ → List Value → Computation Value
append_char program object units given = do
  unit ← char_argument given 0
  append program object units (unit_text unit)

unfoldable pub append_int : CoreProgram → ObjId → List ℕ → List Value → Computation Value
append_int program object units given = do
  number ← int_argument given 0
  append program object units (decimal_text number)

unfoldable pub append_long : CoreProgram → ObjId → List ℕ → List Value → Computation Value
append_long program object units given = do
  number ← long_argument given 0
  append program object units (decimal_text number)

-- with other units, if a place is in range, and then the value
abbrev pub rewritten : CoreProgram → ObjId → Option (List ℕ) → Value → Computation Value
rewritten program object changed value = do
  new ← or_raise program string_index changed
  put_units object new
  ret value

unfoldable pub delete_char_at : CoreProgram → ObjId → List ℕ → List Value → Computation Value
delete_char_at program object units given = do
  place ← int_argument given 0
  rewritten program object (without_unit units place) (Ref object)

unfoldable pub set_char_at : CoreProgram → ObjId → List ℕ → List Value → Computation Value
set_char_at program object units given = do
  place ← int_argument given 0
  unit ← char_argument given 1
  rewritten program object (with_unit units place unit) Null

-- ---- by their signatures

abbrev pub static_entries : CoreProgram → List Value → List Entry
static_entries program given =
    (codes "new()", new_builder []) ∷
    (codes "new(String)", builder_of_text program given) ∷
    []

abbrev pub entries : CoreProgram → ObjId → List ℕ → List Value → List Entry
entries program object units given =
    (codes "append(String)", append_text program object units given) ∷
    (codes "append(boolean)", append_truth program object units given) ∷
    (codes "append(char)", append_char program object units given) ∷
    (codes "append(int)", append_int program object units given) ∷
    (codes "append(long)", append_long program object units given) ∷
    (codes "charAt(int)", char_at program units given) ∷
    (codes "deleteCharAt(int)", delete_char_at program object units given) ∷
    (codes "length()", ret (Int (count_as_int (length units)))) ∷
    (codes "setCharAt(int,char)", set_char_at program object units given) ∷
    (codes "toString()", new_text units) ∷
    []

abbrev pub on_receiver : CoreProgram → List ℕ → Value → List Value → Computation Value
on_receiver program signature this given = do
  object ← deref program this
  units ← get_units object
  entry_of signature (entries program object units given) wrong

unfoldable pub builder_member : CoreProgram → List ℕ → Value → List Value → Computation Value
builder_member program signature this given = entry_of signature (static_entries program given) (on_receiver program signature this given)
