-- Wild members of the library: those that no taming text enables (Object's `hashCode()` and `toString()`, and what System tells).
-- The texts of objects that come from one (JLS 15.18.1.1).
use Rattle.std.specs.Prelude.{ℕ, zero, suc, Bool, true, false, not, ◌&&◌, List, [], filter, Option, Some, None, is_none, slice_get, unwrap_or, codes}
use Rattle.std.specs.List.{position}
use Rattle.std.specs.Str.{bytes_eq}
use Rattle.je_core.specs.declared.types.Base.{Base}
use Rattle.je_core.specs.declared.types.Base.TheVariants as base
use Rattle.je_core.specs.declared.types.ClassId.{ClassId}
use Rattle.je_core.specs.declared.types.Ty.{Ty}
use Rattle.je_core.specs.Core.{CoreMethod, CoreProgram}
use Rattle.je_table.specs.Library.{Class, classes, library}
use Rattle.je_table.specs.Library as table
use Rattle.je_table.specs.Rows.{Row}
use Rattle.je_classes.specs.Hierarchy.{object_class}
use Rattle.je_classes.specs.Members.{Member, method_of, is_object_row, Found, nothing, one, several}
use Rattle.je_classes.specs.Methods.{find_method}
use Rattle.library_classes.specs.Library.{rows}

-- a row of a method or constructor of the class of that full name
abbrev pub is_method_row : List ℕ → Row → Bool
is_method_row class row = bytes_eq row.class class && not (is_none row.parameters)

abbrev pub rows_of : Option Class → List Row
rows_of None = []
rows_of (Some class) = filter (is_method_row class.name) rows

abbrev pub is_wild_row : Option Row → Bool
is_wild_row None = false
is_wild_row (Some row) = not row.tame

-- whether a method is a wild one of the library, whose methods stand in each class in the order of their rows
unfoldable pub is_wild : Member → Bool
is_wild m = is_wild_row (slice_get (rows_of (slice_get classes m.class.0)) m.at)

abbrev pub is_wild_found : Found → Bool
is_wild_found (one m) = is_wild m
is_wild_found nothing = false
is_wild_found several = false

-- the place of Object's `toString()` among its methods
unfoldable pub text_place : ℕ
text_place = unwrap_or (position (λ (m : table.Member). bytes_eq m.name (codes "toString")) (filter is_object_row library)) 0

abbrev pub has_wild_text_by : CoreProgram → ClassId → CoreMethod → Bool
has_wild_text_by program class text = is_wild_found (find_method program class text.name [])

abbrev pub has_wild_text_of : CoreProgram → ClassId → Option CoreMethod → Bool
has_wild_text_of program class None = false
has_wild_text_of program class (Some text) = has_wild_text_by program class text

-- whether the `toString()` that is found in a class is wild
unfoldable pub has_wild_text : CoreProgram → ClassId → Bool
has_wild_text program class = has_wild_text_of program class (method_of program (record { class = object_class; at = text_place }))

abbrev pub is_wild_text_of : CoreProgram → Base → ℕ → Bool
is_wild_text_of program b (suc n) = has_wild_text program object_class
is_wild_text_of program (base.Class class) zero = has_wild_text program class
is_wild_text_of program _ zero = false

-- whether the `toString()` that is found in a type is wild: an array has Object's members (JLS 10.7), and a primitive type has none
abbrev pub is_wild_text : CoreProgram → Ty → Bool
is_wild_text program t = is_wild_text_of program t.base t.dims
