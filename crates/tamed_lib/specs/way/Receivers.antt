-- Members of StringBuilder, of String and of the rows by their signatures, apart from those of a receiver.
use Rattle.std.specs.Prelude.{ℕ, List, [], codes, if◌then◌else◌}
use Rattle.std.specs.Str.{bytes_eq}
use Rattle.je_core.specs.Core.{CoreProgram}
use Rattle.je_core.specs.declared.types.ClassId.{ClassId}
use Rattle.je_core.specs.declared.value.ObjId.{ObjId}
use Rattle.je_core.specs.declared.value.Value.{Value}
use Rattle.je_java.specs.Steps.{Computation, ◌>>=◌, deref, get_count, get_units, wrong}
use Rattle.je_java.specs.library.Arguments.{entry_of}
use Rattle.je_java.specs.library.Builders.{builder_of_text, entries, new_builder}
use Rattle.je_java.specs.library.RowObjects as rows
use Rattle.je_java.specs.library.Strings as strings

-- on a builder that holds these units
unfoldable pub on_builder : CoreProgram → List ℕ → List Value → ObjId → List ℕ → Computation Value
on_builder program signature given object units = entry_of signature (entries program object units given) wrong

-- on a receiver
unfoldable pub on_receiver : CoreProgram → List ℕ → Value → List Value → Computation Value
on_receiver program signature this given = do
  object ← deref program this
  units ← get_units object
  on_builder program signature given object units

abbrev pub by_signature : CoreProgram → List ℕ → Value → List Value → Computation Value
by_signature program signature this given =
    if bytes_eq (codes "new()") signature then new_builder [] else
    (if bytes_eq (codes "new(String)") signature then builder_of_text program given else on_receiver program signature this given)

-- ---- on a string with these units

unfoldable pub on_string : CoreProgram → List ℕ → List Value → ObjId → List ℕ → Computation Value
on_string program signature given object units = entry_of signature (strings.entries program object units given) wrong

unfoldable pub on_text : CoreProgram → List ℕ → Value → List Value → Computation Value
on_text program signature this given = do
  object ← deref program this
  units ← get_units object
  on_string program signature given object units

abbrev pub text_by_signature : CoreProgram → List ℕ → Value → List Value → Computation Value
text_by_signature program signature this given = entry_of signature (strings.static_entries program given) (on_text program signature this given)

-- ---- on a row of so many values

unfoldable pub on_row : CoreProgram → List ℕ → List Value → ObjId → ℕ → Computation Value
on_row program signature given object count = entry_of signature (rows.entries program object count given) wrong

unfoldable pub on_row_receiver : CoreProgram → List ℕ → Value → List Value → Computation Value
on_row_receiver program signature this given = do
  object ← deref program this
  count ← get_count object
  on_row program signature given object count

abbrev pub row_by_signature : CoreProgram → ClassId → List ℕ → Value → List Value → Computation Value
row_by_signature program class signature this given = entry_of signature (rows.static_entries program class given) (on_row_receiver program signature this given)
