-- The rows of the library's table that are a class's fields and methods. In a library class the fields and the methods each
-- stand in the order of their rows, hidden fields last.
use Rattle.std.specs.Prelude.{ℕ, zero, suc, Bool, true, false, not, ◌&&◌, List, [], ◌∷◌, map, Option, Some, None, is_none, slice_get, if◌then◌else◌}
use Rattle.std.specs.Str.{bytes_eq}
use Rattle.je_core.specs.declared.types.ClassId.{ClassId}
use Rattle.je_table.specs.Library.{Class, classes, library}
use Rattle.je_table.specs.Rows.{Row, row_of}

abbrev pub same_sort : Bool → Bool → Bool
same_sort true b = b
same_sort false b = not b

-- a row of the class of that full name: a field, or a method or constructor
abbrev pub is_row_of : List ℕ → Bool → Row → Bool
is_row_of class is_field row = bytes_eq row.class class && same_sort is_field (is_none row.parameters)

-- the place, counted from there on, of the row that passes and before which so many pass
abbrev pub place_from : (Row → Bool) → ℕ → List Row → ℕ → Option ℕ
place_from test n [] before = None
place_from test n (row ∷ rows) zero = if test row then Some n else place_from test (suc n) rows zero
place_from test n (row ∷ rows) (suc before) = if test row then place_from test (suc n) rows before else place_from test (suc n) rows (suc before)

abbrev pub place_in : List Row → Bool → ℕ → Option Class → Option ℕ
place_in rows is_field at None = None
place_in rows is_field at (Some class) = place_from (is_row_of class.name is_field) 0 rows at

-- the row of the field, or of the method or constructor, of a number of a class; there is none for a hidden field, and none for a
-- class that isn't the library's
unfoldable pub library_place : ClassId → Bool → ℕ → Option ℕ
library_place class is_field at = place_in (map row_of library) is_field at (slice_get classes class.0)
