-- Where a text or a unit stands in a text: `startsWith`, `endsWith` and `indexOf` of java.lang.String.
use Rattle.std.specs.Prelude.{ℕ, ℤ, pos, negsuc, ◌+◌, Bool, ◌==◌, nat_eq, List, [], ◌∷◌, Option, Some, None, position, if◌then◌else◌}
use Rattle.std.specs.List.{starts_with, ends_with}

-- `startsWith`
abbrev pub is_prefix : List ℕ → List ℕ → Bool
is_prefix part units = starts_with nat_eq units part

-- `endsWith`
abbrev pub is_suffix : List ℕ → List ℕ → Bool
is_suffix part units = ends_with nat_eq units part

-- the least place at which a part stands, where the units begin at place `at`
abbrev pub index_from : ℕ → List ℕ → List ℕ → Option ℕ
index_from at [] part = if is_prefix part [] then Some at else None
index_from at (unit ∷ units) part =
    if is_prefix part (unit ∷ units) then Some at else index_from (at + 1) units part

-- `indexOf` of a text: the least place at which it stands; none where it stands nowhere
abbrev pub index_of : List ℕ → List ℕ → Option ℕ
index_of units part = index_from 0 units part

-- `indexOf` of an int: the least place of a unit of that value; none where there is no such unit
abbrev pub index_of_unit : List ℕ → ℤ → Option ℕ
index_of_unit units (pos value) = position (λ unit. unit == value) units
index_of_unit units (negsuc n) = None
