-- Which members guests may use: those of a program's own classes, and those of the library that the taming text enables (Mettler,
-- Wagner, Close, 'Joe-E: A Security-Oriented Subset of Java', NDSS 2010, on taming the library).
use Rattle.std.specs.Prelude.{ℕ, Bool, false, ◌||◌, List, Option, Some, None}
use Rattle.je_classes.specs.Members.{Member}
use Rattle.je_fitting.specs.Members.{is_guest}
use Rattle.library_places.specs.Places.{library_place}
use Rattle.taming_db.specs.Rows.{Row}
use Rattle.taming_db.specs.Taming.{is_enabled}

-- a member of the library that has no row in its table is never enabled
abbrev pub is_enabled_if : List Row → Option ℕ → Bool
is_enabled_if rows None = false
is_enabled_if rows (Some member) = is_enabled rows member

-- a field, or a method or constructor
abbrev pub may_use : List Row → Bool → Member → Bool
may_use rows is_field m = is_guest m.class || is_enabled_if rows (library_place m.class is_field m.at)
