-- Values as texts, and the strings made of them (JLS 15.18.1), in the steps of Steps.antt.
use Rattle.std.specs.Prelude.{ℕ, Bool, List, ◌++◌, Option, Some, None, codes, if◌then◌else◌}
use Rattle.je_core.specs.declared.types.Ty.{Ty}
use Rattle.je_core.specs.declared.value.ObjId.{ObjId}
use Rattle.je_core.specs.declared.value.Value.{Value}
use Rattle.je_core.specs.declared.value.Value.TheVariants.{Bool as Truth, Byte, Short, Char, Int, Long, Null, Ref}
use Rattle.je_classes.specs.Subtypes.{class_type, same_type}
use Rattle.je_java.specs.LibraryClasses.{string_class}
use Rattle.je_java.specs.Steps.{Computation, ret, ◌>>=◌, need, get_type, get_units, make_text}
use Rattle.text_numbers.specs.Writing.{decimal_text, truth_text, unit_text}

abbrev pub null_text : List ℕ
null_text = codes "null"

-- a value that is no reference to an object, as a text (JLS 15.18.1.1)
abbrev pub text_without_object : Value → Option (List ℕ)
text_without_object (Truth holds) = Some (truth_text holds)
text_without_object (Byte number) = Some (decimal_text number)
text_without_object (Short number) = Some (decimal_text number)
text_without_object (Char unit) = Some (unit_text unit)
text_without_object (Int number) = Some (decimal_text number)
text_without_object (Long number) = Some (decimal_text number)
text_without_object Null = Some null_text
text_without_object (Ref object) = None

abbrev pub is_string : Ty → Bool
is_string ty = same_type ty (class_type string_class)

-- the units of what a `toString()` gave; null has those of `null`
abbrev pub units_told : Value → Computation (List ℕ)
units_told (Ref object) = get_units object
units_told value = need (text_without_object value)

-- an object of a type as a text: a string's units, else what its `toString()` gives
abbrev pub text_of_object : (ObjId → Computation Value) → ObjId → Ty → Computation (List ℕ)
text_of_object to_string object own = if is_string own then get_units object else do
  told ← to_string object
  units_told told

-- a value as a text, by what the `toString()` of an object gives (JLS 15.18.1.1)
abbrev pub text_of : (ObjId → Computation Value) → Value → Computation (List ℕ)
text_of to_string (Ref object) = do
  own ← get_type object
  text_of_object to_string object own
text_of to_string value = need (text_without_object value)

-- two values as one new string: the left one comes to its text before the right one does
unfoldable pub concatenated : (ObjId → Computation Value) → Value → Value → Computation Value
concatenated to_string left right = do
  front ← text_of to_string left
  back ← text_of to_string right
  object ← make_text (front ++ back)
  ret (Ref object)
