-- Worked rows.
use Rattle.std.proofs.Common.{◌≡◌, ℕ, refl}
use Rattle.std.specs.Prelude.{Bool, true, false, not, ◌||◌, is_none}
use Rattle.std.specs.List.{list_all}
use Rattle.je_table.specs.Rows.{Row}
use Rattle.library_classes.specs.Library.{rows}
use Rattle.plain_programs.specs.Wild.{is_wild, text_place}

abbrev wild : ℕ → ℕ → Bool
wild class at = is_wild (record { class = record { 0 = class }; at = at })

-- Object's `hashCode()` and `toString()`, and the four methods of System
wild_members : (wild 0 1 ≡ true) × (wild 0 3 ≡ true) × (wild 6 0 ≡ true) × (wild 6 1 ≡ true) × (wild 6 2 ≡ true) × (wild 6 3 ≡ true)
unfolding is_wild rows
wild_members = (refl, refl, refl, refl, refl, refl)

-- Object's `equals(Object)` and its constructor, String's `hashCode()`, no fifth method of System, and a class of a program's own
tame_members : (wild 0 0 ≡ false) × (wild 0 2 ≡ false) × (wild 1 5 ≡ false) × (wild 6 4 ≡ false) × (wild 39 1 ≡ false)
unfolding is_wild rows
tame_members = (refl, refl, refl, refl, refl)

-- no field is wild
fields_are_tame : list_all (λ (row : Row). row.tame || not (is_none row.parameters)) rows ≡ true
unfolding rows
fields_are_tame = refl

text_is_fourth : text_place ≡ 3
unfolding text_place
text_is_fourth = refl
