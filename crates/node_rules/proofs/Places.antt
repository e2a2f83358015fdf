-- A place past all rows of the library's table is the place of no member.
use Rattle.std.proofs.Common.{◌≡◌, ℕ, zero, suc, ◌≤◌, ◌<◌, List, [], ◌∷◌, length, map, Option, Some, None, refl, arith}
use Rattle.std.specs.Prelude.{Bool, true, false, slice_get, if◌then◌else◌}
use Rattle.je_core.specs.declared.types.ClassId.{ClassId}
use Rattle.je_classes.proofs.Lists.{bool_cases}
use Rattle.je_table.specs.Library.{Class, classes, library}
use Rattle.je_table.specs.Rows.{Row, row_of}
use Rattle.library_places.specs.Places.{is_row_of, place_from, place_in, library_place}

none_left : (test : Row → Bool) (n : ℕ) (rows : List Row) (before : ℕ) → length rows ≤ before → place_from test n rows before ≡ None
none_left test n [] before h = refl
none_left test n (row ∷ rows) zero h = absurd (omega arith)
none_left test n (row ∷ rows) (suc before) h =
    bool_cases (λ b. (if b then place_from test (suc n) rows before else place_from test (suc n) rows (suc before)) ≡ None) (test row)
    (λ _. none_left test (suc n) rows before (omega arith)) (λ _. none_left test (suc n) rows (suc before) (omega arith))

count : length (map row_of library) ≡ 110
count = refl

none_in : (is_field : Bool) (at : ℕ) (class : Option Class) → 4294967295 < at → place_in (map row_of library) is_field at class ≡ None
none_in is_field at None h = refl
none_in is_field at (Some class) h = none_left (is_row_of class.name is_field) 0 (map row_of library) at (omega (arith, count))

pub no_place : (class : ClassId) (is_field : Bool) (at : ℕ) → 4294967295 < at → library_place class is_field at ≡ None
unfolding library_place
no_place class is_field at h = none_in is_field at (slice_get classes class.0) h
