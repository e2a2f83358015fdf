-- What a call of a member of a library class does once its receiver and arguments have values, and what it costs beside its node.
use Rattle.std.specs.Prelude.{ℕ, ◌*◌, Bool, true, false, List, [], length, Option, Some, None, slice_get, unwrap_or}
use Rattle.je_core.specs.declared.types.ClassId.{ClassId}
use Rattle.je_core.specs.declared.value.Value.{Value}
use Rattle.je_core.specs.Core.{CoreProgram}
use Rattle.je_table.specs.declared.classes.LibraryClass.{LibraryClass}
use Rattle.je_table.specs.declared.classes.LibraryClass.TheVariants as class
use Rattle.je_table.specs.declared.members.CostKind.{CostKind}
use Rattle.je_table.specs.declared.members.CostKind.TheVariants as cost
use Rattle.je_table.specs.Library.{Member, all_classes, library, signature_of}
use Rattle.je_java.specs.Steps.{Computation, Nothing, ret, ◌>>=◌, ◌>>◌, need, charge, deref, get_units}
use Rattle.je_java.specs.library.Arguments.{text_or_null}
use Rattle.je_java.specs.library.Builders.{builder_member}
use Rattle.je_java.specs.library.Numbers.{integer_member, long_member, math_member}
use Rattle.je_java.specs.library.Objects.{object_member}
use Rattle.je_java.specs.library.RowObjects.{row_member}
use Rattle.je_java.specs.library.Strings.{string_member}
use Rattle.je_java.specs.library.Throwables.{throwable_member}
use Rattle.library_places.specs.Places.{library_place}

abbrev pub row_at : Option ℕ → Option Member
row_at None = None
row_at (Some place) = slice_get library place

-- the row of the method or constructor of a number of a class
abbrev pub member_row : ClassId → ℕ → Option Member
member_row class at = row_at (library_place class false at)

-- how many units the receiver has
abbrev pub receiver_length : CoreProgram → Value → Computation ℕ
receiver_length program this = do
  object ← deref program this
  units ← get_units object
  ret (length units)

-- What a member costs by its row; what it makes or adds is paid for where that is done.
abbrev pub pay : CostKind → CoreProgram → Value → List Value → Computation Nothing
pay cost.Plain program this given = ret tt
pay cost.Result program this given = ret tt
pay cost.Receiver program this given = do
  count ← receiver_length program this
  charge count
pay cost.Product program this given = do
  count ← receiver_length program this
  part ← text_or_null given 0
  charge (count * length (unwrap_or part []))

-- what the member of a signature of a class does; the classes that aren't named are those of throwables, and those of which no
-- member is tame or has a body
abbrev pub member_of_class : LibraryClass → CoreProgram → ClassId → List ℕ → Value → List Value → Computation Value
member_of_class class.Object program own signature this given = object_member signature this given
member_of_class class.Token program own signature this given = object_member signature this given
member_of_class class.String program own signature this given = string_member program signature this given
member_of_class class.StringBuilder program own signature this given = builder_member program signature this given
member_of_class class.Integer program own signature this given = integer_member program signature given
member_of_class class.Long program own signature this given = long_member program signature given
member_of_class class.Math program own signature this given = math_member signature given
member_of_class class.ConstRow program own signature this given = row_member program own signature this given
member_of_class class.IntRow program own signature this given = row_member program own signature this given
member_of_class class.TextRow program own signature this given = row_member program own signature this given
member_of_class _ program own signature this given = throwable_member program signature this given

-- the member of a number of a class, on its receiver, which is null where it has none, and its arguments
unfoldable pub run_library : CoreProgram → ClassId → ℕ → Value → List Value → Computation Value
run_library program own at this given = do
  row ← need (member_row own at)
  pay row.cost program this given
  member_of_class row.class program own (signature_of row) this given

-- the classes whose constructors make their object themselves: no instance of theirs is made beforehand
abbrev pub makes_itself : LibraryClass → Bool
makes_itself class.String = true
makes_itself class.StringBuilder = true
makes_itself class.ConstRow = true
makes_itself class.IntRow = true
makes_itself class.TextRow = true
makes_itself _ = false

abbrev pub is_made_by_itself : Option LibraryClass → Bool
is_made_by_itself None = false
is_made_by_itself (Some c) = makes_itself c

unfoldable pub has_own_makers : ClassId → Bool
has_own_makers own = is_made_by_itself (slice_get all_classes own.0)
