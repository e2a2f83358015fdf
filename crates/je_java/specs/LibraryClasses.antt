-- The classes of strings and of string builders (JLS 4.3.3), and the method by which an object is a text (JLS 15.18.1.1).
use Rattle.std.specs.Prelude.{ℕ, List, filter, codes, unwrap_or}
use Rattle.std.specs.List.{position}
use Rattle.std.specs.Str.{bytes_eq}
use Rattle.je_core.specs.declared.types.ClassId.{ClassId}
use Rattle.je_classes.specs.Hierarchy.{library_class}
use Rattle.je_classes.specs.Members.{is_object_row}
use Rattle.je_table.specs.Library.{library}

unfoldable pub string_class : ClassId
string_class = library_class (codes "java.lang.String")

unfoldable pub builder_class : ClassId
builder_class = library_class (codes "java.lang.StringBuilder")

-- the place of Object's `toString` among its methods, which stand in the order of their rows
unfoldable pub to_string_place : ℕ
to_string_place = unwrap_or (position (λ m. bytes_eq m.name (codes "toString")) (filter is_object_row library)) 0
