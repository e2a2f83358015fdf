-- What the members of java.lang.String do (its page in the Java SE 5 API), each under its signature; and those that
-- java.lang.StringBuilder has alike.
use Rattle.std.specs.Prelude.{ℕ, ℤ, pos, negsuc, Bool, true, false, List, [], ◌∷◌, ◌++◌, length, map, Option, Some, None, codes, if◌then◌else◌}
use Rattle.je_core.specs.declared.types.Base.TheVariants as base
use Rattle.je_core.specs.declared.types.Ty.{Ty}
use Rattle.je_core.specs.declared.value.ObjId.{ObjId}
use Rattle.je_core.specs.declared.value.Value.{Value}
use Rattle.je_core.specs.declared.value.Value.TheVariants.{Bool as Truth, Char, Int, Null, Ref}
use Rattle.je_core.specs.Core.{CoreProgram}
use Rattle.je_classes.specs.Subtypes.{array_of}
use Rattle.je_java.specs.Arrays.{array_from}
use Rattle.je_java.specs.Raised.{string_index}
use Rattle.je_java.specs.Steps.{Computation, ret, ◌>>=◌, wrong, need, deref, get_type, get_units, make_text, or_raise}
use Rattle.je_java.specs.Texts.{is_string}
use Rattle.je_java.specs.library.Arguments.{int_argument, long_argument, char_argument, truth_argument, char_in, argument, text_argument, elements_argument, Entry, entry_of}
use Rattle.text_members.specs.Parts.{unit_at, substring, substring_from, trimmed}
use Rattle.text_members.specs.Finding.{is_prefix, is_suffix, index_of, index_of_unit}
use Rattle.text_members.specs.Changes.{replaced}
use Rattle.text_members.specs.Comparing.{is_same_text, compared, hash_code, count_as_int}
use Rattle.text_numbers.specs.Writing.{decimal_text, truth_text, unit_text}

-- a new string
unfoldable pub new_text : List ℕ → Computation Value
new_text units = do
  object ← make_text units
  ret (Ref object)

-- a new string, if there are units for it; else a place is out of range
unfoldable pub new_part : CoreProgram → Option (List ℕ) → Computation Value
new_part program part = do
  units ← or_raise program string_index part
  new_text units

-- ---- without a receiver: the constructor makes its object, and the others are static

abbrev pub with_unit_before : Option ℕ → Option (List ℕ) → Option (List ℕ)
with_unit_before (Some unit) (Some units) = Some (unit ∷ units)
with_unit_before _ _ = None

-- the units of chars
abbrev pub units_in_values : List Value → Option (List ℕ)
units_in_values [] = Some []
units_in_values (value ∷ values) = with_unit_before (char_in (Some value)) (units_in_values values)

unfoldable pub text_of_chars : CoreProgram → List Value → Computation Value
text_of_chars program given = do
  values ← elements_argument program given 0
  units ← need (units_in_values values)
  new_text units

unfoldable pub text_of_truth : List Value → Computation Value
text_of_truth given = do
  holds ← truth_argument given 0
  new_text (truth_text holds)

unfoldable pub text_of_char : List Value → Computation Value
text_of_char given = do
  unit ← char_argument given 0
  new_text (unit_text unit)

unfoldable pub text_of_int : List Value → Computation Value
text_of_int given = do
  number ← int_argument given 0
  new_text (decimal_text number)

unfoldable pub text_of_long : List Value → Computation Value
text_of_long given = do
  number ← long_argument given 0
  new_text (decimal_text number)

-- ---- on a receiver with these units

unfoldable pub char_at : CoreProgram → List ℕ → List Value → Computation Value
char_at program units given = do
  place ← int_argument given 0
  unit ← or_raise program string_index (unit_at units place)
  ret (Char unit)

unfoldable pub comparison : CoreProgram → List ℕ → List Value → Computation Value
comparison program units given = do
  other ← text_argument program given 0
  ret (Int (compared units other))

unfoldable pub joined : CoreProgram → List ℕ → List Value → Computation Value
joined program units given = do
  other ← text_argument program given 0
  new_text (units ++ other)

-- the test of a prefix or of a suffix
unfoldable pub tested_by : (List ℕ → List ℕ → Bool) → CoreProgram → List ℕ → List Value → Computation Value
tested_by Holds program units given = do
  part ← text_argument program given 0
  ret (Truth (Holds part units))

abbrev pub equals_object : List ℕ → ObjId → Ty → Computation Value
equals_object units object own = if is_string own then (do
  other ← get_units object
  ret (Truth (is_same_text units other))) else ret (Truth false)

abbrev pub equals_value : List ℕ → Value → Computation Value
equals_value units (Ref object) = do
  own ← get_type object
  equals_object units object own
equals_value units Null = ret (Truth false)
equals_value units _ = wrong

unfoldable pub equality : List ℕ → List Value → Computation Value
equality units given = do
  value ← argument given 0
  equals_value units value

-- a place as an int, and -1 for none
abbrev pub place_as_int : Option ℕ → ℤ
place_as_int None = negsuc 0
place_as_int (Some at) = count_as_int at

unfoldable pub place_of_text : CoreProgram → List ℕ → List Value → Computation Value
place_of_text program units given = do
  part ← text_argument program given 0
  ret (Int (place_as_int (index_of units part)))

unfoldable pub place_of_unit : List ℕ → List Value → Computation Value
place_of_unit units given = do
  unit ← int_argument given 0
  ret (Int (place_as_int (index_of_unit units unit)))

unfoldable pub replacement : List ℕ → List Value → Computation Value
replacement units given = do
  old ← char_argument given 0
  new ← char_argument given 1
  new_text (replaced units old new)

unfoldable pub part_from : CoreProgram → List ℕ → List Value → Computation Value
part_from program units given = do
  begin ← int_argument given 0
  new_part program (substring_from units begin)

unfoldable pub part_between : CoreProgram → List ℕ → List Value → Computation Value
part_between program units given = do
  begin ← int_argument given 0
  end ← int_argument given 1
  new_part program (substring units begin end)

abbrev pub char_type : Ty
char_type = record { base = base.Char; dims = 0 }

-- ---- by their signatures

abbrev pub static_entries : CoreProgram → List Value → List Entry
static_entries program given =
    (codes "new(char[])", text_of_chars program given) ∷
    (codes "valueOf(boolean)", text_of_truth given) ∷
    (codes "valueOf(char)", text_of_char given) ∷
    (codes "valueOf(int)", text_of_int given) ∷
    (codes "valueOf(long)", text_of_long given) ∷
    []

abbrev pub entries : CoreProgram → ObjId → List ℕ → List Value → List Entry
entries program object units given =
    (codes "charAt(int)", char_at program units given) ∷
    (codes "compareTo(String)", comparison program units given) ∷
    (codes "concat(String)", joined program units given) ∷
    (codes "endsWith(String)", tested_by is_suffix program units given) ∷
    (codes "equals(Object)", equality units given) ∷
    (codes "hashCode()", ret (Int (hash_code units))) ∷
    (codes "indexOf(String)", place_of_text program units given) ∷
    (codes "indexOf(int)", place_of_unit units given) ∷
    (codes "length()", ret (Int (count_as_int (length units)))) ∷
    (codes "replace(char,char)", replacement units given) ∷
    (codes "startsWith(String)", tested_by is_prefix program units given) ∷
    (codes "substring(int)", part_from program units given) ∷
    (codes "substring(int,int)", part_between program units given) ∷
    (codes "toCharArray()", array_from (array_of char_type) (map Char units)) ∷
    (codes "toString()", ret (Ref object)) ∷
    (codes "trim()", new_text (trimmed units)) ∷
    []

abbrev pub on_receiver : CoreProgram → List ℕ → Value → List Value → Computation Value
on_receiver program signature this given = do
  object ← deref program this
  units ← get_units object
  entry_of signature (entries program object units given) wrong

unfoldable pub string_member : CoreProgram → List ℕ → Value → List Value → Computation Value
string_member program signature this given = entry_of signature (static_entries program given) (on_receiver program signature this given)
