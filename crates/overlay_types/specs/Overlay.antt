-- Overlay types of Joe-E: which markers a type has (Mettler, Wagner, Close, 'Joe-E: A Security-Oriented Subset of Java', NDSS 2010).
use Rattle.std.specs.Prelude.{ℕ, zero, suc, Bool, true, false, not, ◌&&◌, ◌||◌, List, Option, Some, None, length, codes}
use Rattle.std.specs.List.{list_any, range_with_len}
use Rattle.je_core.specs.declared.types.Base.{Base}
use Rattle.je_core.specs.declared.types.Base.TheVariants as base
use Rattle.je_core.specs.declared.types.ClassId.{ClassId}
use Rattle.je_core.specs.declared.types.Ty.{Ty}
use Rattle.je_core.specs.Core.{CoreClass, CoreProgram}
use Rattle.je_table.specs.declared.classes.LibraryClass.{LibraryClass}
use Rattle.je_table.specs.declared.classes.LibraryClass.TheVariants as class
use Rattle.je_table.specs.Library.{class_row, classes}
use Rattle.je_classes.specs.Hierarchy.{class_at, is_below, library_class}
use Rattle.je_classes.specs.Subtypes.{is_reference}
use Rattle.je_fitting.specs.Classes.{is_enum_sort}
use Rattle.taming_db.specs.declared.marker.Marker.{Marker}
use Rattle.taming_db.specs.declared.marker.Marker.TheVariants.{Immutable, Powerless, Selfless, Equatable}
use Rattle.taming_db.specs.Rows.{Row}
use Rattle.taming_db.specs.Taming.{is_honorary}

-- a class of the library, by its number in a program
abbrev pub of_library : LibraryClass → ClassId
of_library c = library_class (class_row c).name

-- the interface that the marker is
abbrev pub interface_of : Marker → ClassId
interface_of Immutable = of_library class.Immutable
interface_of Powerless = of_library class.Powerless
interface_of Selfless = of_library class.Selfless
interface_of Equatable = of_library class.Equatable

-- The class is, or is below, a class of the library that the taming text makes honorary in the marker.
abbrev pub is_honorary_by : CoreProgram → List Row → Marker → ClassId → Bool
is_honorary_by program rows marker c = list_any (λ number. is_honorary rows number marker && is_below program c (record { 0 = number })) (range_with_len 0 (length classes))

abbrev pub is_enum : Option CoreClass → Bool
is_enum None = false
is_enum (Some c) = is_enum_sort c.kind.sort

-- the constants of an enum are known by their names, grant nothing and may be compared
abbrev pub goes_with_enums : Marker → Bool
goes_with_enums Immutable = false
goes_with_enums Powerless = true
goes_with_enums Selfless = false
goes_with_enums Equatable = true

-- A class has the marker, apart from what has Immutable for being Powerless.
unfoldable pub is_marked : CoreProgram → List Row → Marker → ClassId → Bool
is_marked program rows marker c =
    is_below program c (interface_of marker)
    || is_honorary_by program rows marker c
    || (goes_with_enums marker && is_enum (class_at program c))

abbrev pub class_has : CoreProgram → List Row → Marker → ClassId → Bool
class_has program rows Immutable c = is_marked program rows Immutable c || is_marked program rows Powerless c
class_has program rows Powerless c = is_marked program rows Powerless c
class_has program rows Selfless c = is_marked program rows Selfless c
class_has program rows Equatable c = is_marked program rows Equatable c

abbrev pub has_by : CoreProgram → List Row → Marker → Base → ℕ → Bool
has_by program rows marker (base.Class c) zero = class_has program rows marker c
has_by program rows marker base.Null zero = true
has_by program rows marker _ zero = false
has_by program rows marker _ (suc n) = false

-- A type has a marker: an array type has none, and the type of `null` is below all (JLS 4.10).
unfoldable pub has : CoreProgram → List Row → Marker → Ty → Bool
has program rows marker t = has_by program rows marker t.base t.dims

-- What a variable of the type holds keeps the marker's promise: where the type is primitive, or has the marker.
abbrev pub holds : CoreProgram → List Row → Marker → Ty → Bool
holds program rows marker t = not (is_reference t) || has program rows marker t

-- A class is under Immutable where it has Immutable, and each class of exceptions is.
unfoldable pub is_under_immutable : CoreProgram → List Row → ClassId → Bool
is_under_immutable program rows c = class_has program rows Immutable c || is_below program c (of_library class.Throwable)
