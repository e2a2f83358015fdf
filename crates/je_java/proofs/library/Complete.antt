-- The members that have a case are just the tame methods and constructors of the library's table, apart from those of
-- interfaces, which are abstract.
use Rattle.std.proofs.Common.{◌≡◌, ℕ, List, [], ◌∷◌, ◌++◌, map, Bool, true, false, refl}
use Rattle.std.specs.Prelude.{filter, not, ◌&&◌, ◌||◌, is_none}
use Rattle.std.specs.List.{list_any, list_all}
use Rattle.std.specs.Str.{bytes_eq}
use Rattle.je_core.specs.declared.types.ClassId.{ClassId}
use Rattle.je_core.specs.declared.value.ObjId.{ObjId}
use Rattle.je_core.specs.declared.value.Value.{Value}
use Rattle.je_core.specs.Core.{CoreProgram}
use Rattle.je_table.specs.declared.classes.LibraryClass.{LibraryClass}
use Rattle.je_table.specs.declared.classes.LibraryClass.TheVariants as class
use Rattle.je_table.specs.Library.{Member, class_row, all_classes, library, signature_of}
use Rattle.je_java.specs.library.Arguments.{Entry}
use Rattle.je_java.specs.library.Builders as builders
use Rattle.je_java.specs.library.Numbers.{integer_entries, long_entries, math_entries}
use Rattle.je_java.specs.library.Objects.{object_entries}
use Rattle.je_java.specs.library.RowObjects as rows
use Rattle.je_java.specs.library.Strings as strings
use Rattle.je_java.specs.library.Throwables.{throwable_entries}

-- whatever the program and what is called with
module _ (program : CoreProgram) (own : ClassId) (this : Value) (object : ObjId) (units : List ℕ) (count : ℕ) (given : List Value) where
  -- the members of a class that have a case
  abbrev entries : LibraryClass → List Entry
  entries class.Object = object_entries this given
  entries class.Token = object_entries this given
  entries class.String = strings.static_entries program given ++ strings.entries program object units given
  entries class.StringBuilder = builders.static_entries program given ++ builders.entries program object units given
  entries class.Integer = integer_entries program given
  entries class.Long = long_entries program given
  entries class.Math = math_entries given
  entries class.ConstRow = rows.static_entries program own given ++ rows.entries program object count given
  entries class.IntRow = rows.static_entries program own given ++ rows.entries program object count given
  entries class.TextRow = rows.static_entries program own given ++ rows.entries program object count given
  entries _ = throwable_entries program this given

  abbrev has_case : LibraryClass → List ℕ → Bool
  has_case c signature = list_any (λ (entry : Entry). bytes_eq entry.0 signature) (entries c)

  -- a tame method or constructor of a class
  abbrev runs : Member → Bool
  runs m = m.tame && not (is_none m.parameters) && not (class_row m.class).is_interface

  each_tame_member_has_a_case : list_all (λ (m : Member). not (runs m) || has_case m.class (signature_of m)) library ≡ true
  each_tame_member_has_a_case = refl

  no_other_has_one : list_all (λ (m : Member). runs m || not (has_case m.class (signature_of m))) library ≡ true
  no_other_has_one = refl
