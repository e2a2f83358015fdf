-- Worked rows.
use Rattle.std.proofs.Common.{◌≡◌, ℕ, Some, None, refl}
use Rattle.std.specs.Prelude.{Bool, true, false, Option}
use Rattle.library_places.specs.Places.{library_place}

abbrev place : ℕ → Bool → ℕ → Option ℕ
place class is_field at = library_place (record { 0 = class }) is_field at

-- Cell's `set(long)`, Integer's `MIN_VALUE` and Long's, Object's `hashCode()`, Token's constructor
rows_of_members : (place 19 false 1 ≡ Some 1) × (place 3 true 1 ≡ Some 28) × (place 4 true 1 ≡ Some 34) × (place 0 false 1 ≡ Some 50) × (place 14 false 0 ≡ Some 109)
unfolding library_place
rows_of_members = (refl, refl, refl, refl, refl)

-- Cell has two methods and no field, a hidden field has no row, and the class of number 39 is a program's
no_rows : (place 19 false 2 ≡ None) × (place 19 true 0 ≡ None) × (place 9 true 0 ≡ None) × (place 39 false 0 ≡ None)
unfolding library_place
no_rows = (refl, refl, refl, refl)
