-- Which text has which rows, and what rows say of a class and a member.
use Rattle.std.specs.Prelude.{◌≡◌, ℕ, ◌==◌, ◌&&◌, ◌||◌, Bool, false, List, [], ◌∷◌, Option, Some, None, Err, codes}
use Rattle.std.specs.List.{list_any}
use Rattle.std.specs.Str.{IsUtf8}
use Rattle.toml.specs.Data.{Members}
use Rattle.toml.specs.Parse.{parse_document}
use Rattle.je_table.specs.declared.classes.LibraryClass.{LibraryClass}
use Rattle.je_table.specs.declared.classes.LibraryClass.TheVariants as class
use Rattle.je_table.specs.Library.{class_number, class_row}
use Rattle.taming_db.specs.declared.marker.Marker.{Marker}
use Rattle.taming_db.specs.declared.fault.TamingFault.{TamingFault}
use Rattle.taming_db.specs.declared.fault.TamingFault.TheVariants.{Refused, Memory}
use Rattle.taming_db.specs.declared.fault.TamingRule.TheVariants.{NotToml}
use Rattle.taming_db.specs.Markers.{is_same}
use Rattle.taming_db.specs.Rows.{Row, Found, rows_of, is_of, member_place, same_place}

-- a text of TOML has the rows, or the first fault, of its document; every other text has the fault that it is none
pub data Says (bytes : List ℕ) : Found → Type 0 where
  no_toml : (IsUtf8 bytes → parse_document bytes ≡ None) → Says bytes (Err (0, NotToml))
  document : {d : Members} {found : Found} → IsUtf8 bytes → parse_document bytes ≡ Some d → rows_of d ≡ found → Says bytes found

-- the fault is the first of the text
abbrev pub IsFaultOf : List ℕ → TamingFault → Type 0
IsFaultOf bytes (Refused table rule) = Says bytes (Err (table, rule))
IsFaultOf bytes Memory = Unit {0}

-- the constructor of Object, which is always enabled
abbrev pub is_object_constructor : ℕ → Bool
is_object_constructor member = is_there (member_place (codes "java.lang.Object") (codes "new()"))
  where
    is_there : Option ℕ → Bool
    is_there None = false
    is_there (Some at) = at == member

abbrev pub enables : ℕ → Row → Bool
enables member row = list_any (λ at. same_place at member) row.enable

abbrev pub is_enabled : List Row → ℕ → Bool
is_enabled rows member = is_object_constructor member || list_any (enables member) rows

abbrev pub gives_marker : ℕ → Marker → Row → Bool
gives_marker number marker row = is_of number row && list_any (λ m. is_same m marker) row.honorary

abbrev pub is_honorary : List Row → ℕ → Marker → Bool
is_honorary rows number marker = list_any (gives_marker number marker) rows

-- Object and the four markers, which are always open
abbrev pub always_open : List LibraryClass
always_open = class.Object ∷ class.Immutable ∷ class.Powerless ∷ class.Selfless ∷ class.Equatable ∷ []

abbrev pub has_number : ℕ → LibraryClass → Bool
has_number number c = is_number (class_number (class_row c).name)
  where
    is_number : Option ℕ → Bool
    is_number None = false
    is_number (Some n) = n == number

abbrev pub is_always_open : ℕ → Bool
is_always_open number = list_any (has_number number) always_open

abbrev pub opens : ℕ → Row → Bool
opens number row = is_of number row && row.extend

abbrev pub is_open : List Row → ℕ → Bool
is_open rows number = is_always_open number || list_any (opens number) rows
