-- No member of a library class has a number that is not below the count of all rows.
use Rattle.std.proofs.Common.{◌≡◌, ◌≤◌, ◌^◌, ℕ, zero, suc, List, [], ◌∷◌, length, map, Some, None, refl, ap, arith}
use Rattle.std.specs.Prelude.{Bool, true, false, Option, slice_get, if◌then◌else◌}
use Rattle.je_core.specs.declared.types.ClassId.{ClassId}
use Rattle.je_core.specs.declared.value.Value.{Value}
use Rattle.je_core.specs.Core.{CoreProgram}
use Rattle.je_table.specs.Library.{Class, classes, library}
use Rattle.je_table.specs.Rows.{Row, row_of}
use Rattle.je_java.specs.Steps.{Computation, wrong, bind, need}
use Rattle.je_java.specs.LibraryMembers.{row_at, run_library}
use Rattle.library_places.specs.Places.{place_from, place_in, library_place}

either : {A : Type 0} {x y z : A} (b : Bool) → x ≡ z → y ≡ z → (if b then x else y) ≡ z
either true e f = e
either false e f = f

place-past : (test : Row → Bool) (n : ℕ) (rows : List Row) (before : ℕ) → length rows ≤ before → place_from test n rows before ≡ None
place-past test n [] before h = refl
place-past test n (row ∷ rows) zero h = absurd (omega arith)
place-past test n (row ∷ rows) (suc before) h =
    either (test row) (place-past test (suc n) rows before (omega arith)) (place-past test (suc n) rows (suc before) (omega arith))

places-past : (rows : List Row) (at : ℕ) → length rows ≤ at → (class : Option Class) → place_in rows false at class ≡ None
places-past rows at h None = refl
places-past rows at h (Some class) = place-past _ 0 rows at h

few_rows : length (map row_of library) ≤ 2 ^ 32
few_rows = omega arith

no_place : (own : ClassId) (at : ℕ) → 2 ^ 32 ≤ at → library_place own false at ≡ None
unfolding library_place
no_place own at h = places-past (map row_of library) at (omega (arith, few_rows)) (slice_get classes own.0)

-- so none is run
pub no_member : (p : CoreProgram) (own : ClassId) (at : ℕ) (this : Value) (given : List Value) → 2 ^ 32 ≤ at →
    wrong ≡ run_library p own at this given
unfolding run_library bind need wrong
no_member p own at this given h = rw (ap row_at (no_place own at h)) refl
