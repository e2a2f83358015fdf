-- What a taming text says, table by table, or its first fault. Classes and members go by their places in the library's lists.
use Rattle.std.specs.Prelude.{ℕ, ◌+◌, ◌==◌, ◌&&◌, position, List, [], ◌∷◌, ◌++◌, map, Bool, false, not, ◌||◌, Option, Some, None, Result, Ok, Err, option_map, option_and_then, slice_get, unwrap_or, if◌then◌else◌}
use Rattle.std.specs.List.{list_any, list_all}
use Rattle.std.specs.Str.{bytes_eq}
use Rattle.toml.specs.Data.{Data, Items, no_items, item, Members}
use Rattle.je_table.specs.Library.{Class, Member, classes, class_number, library}
use Rattle.je_table.specs.Rows as said
use Rattle.taming_db.specs.declared.marker.Marker.{Marker}
use Rattle.taming_db.specs.declared.fault.TamingRule.{TamingRule}
use Rattle.taming_db.specs.declared.fault.TamingRule.TheVariants.{BadShape, UnknownClass, UnknownMember, Wild, FalseHonorary, Twice}
use Rattle.taming_db.specs.Markers.{is_in, is_same}
use Rattle.taming_db.specs.Shape.{Table, table_of, tables_of}

-- what a table says: its class, and the members that it enables
pub record Row : Type 0 where
  pub class : ℕ
  pub honorary : List Marker
  pub extend : Bool
  pub enable : List ℕ

-- the member that a class of that full name declares with that signature
unfoldable pub member_place : List ℕ → List ℕ → Option ℕ
member_place class signature = position (λ (row : said.Row). bytes_eq row.class class && bytes_eq row.signature signature) (map said.row_of library)

-- the members of all signatures, where the class declares each
abbrev pub member_places : List ℕ → List (List ℕ) → Option (List ℕ)
member_places class [] = Some []
member_places class (signature ∷ rest) = option_and_then (λ at. option_map (λ places. at ∷ places) (member_places class rest)) (member_place class signature)

abbrev pub is_tame : ℕ → Bool
is_tame at = unwrap_or (option_map (λ (m : Member). m.tame) (slice_get library at)) false

-- the marker is one of the class's true ones
abbrev pub is_true_marker : ℕ → Marker → Bool
is_true_marker class m = unwrap_or (option_map (λ (c : Class). is_in c.markers m) (slice_get classes class)) false

-- something stands twice
abbrev pub has_twice : {X : Type 0} → (X → X → Bool) → List X → Bool
has_twice same [] = false
has_twice same (x ∷ xs) = list_any (λ y. same y x) xs || has_twice same xs

abbrev pub same_place : ℕ → ℕ → Bool
same_place m n = m == n

abbrev pub is_of : ℕ → Row → Bool
is_of class row = row.class == class

-- what is judged of a table of the shape whose class and members are there, behind the rows of earlier tables
abbrev pub judged : List Row → Row → Result Row TamingRule
judged earlier row =
    if not (list_all is_tame row.enable) then Err Wild
    else if not (list_all (is_true_marker row.class) row.honorary) then Err FalseHonorary
    else if list_any (is_of row.class) earlier || has_twice is_same row.honorary || has_twice same_place row.enable then Err Twice
    else Ok row

abbrev pub with_members : List Row → Table → ℕ → Option (List ℕ) → Result Row TamingRule
with_members earlier t class None = Err UnknownMember
with_members earlier t class (Some places) = judged earlier (record { class = class; honorary = t.honorary; extend = t.extend; enable = places })

abbrev pub with_class : List Row → Table → Option ℕ → Result Row TamingRule
with_class earlier t None = Err UnknownClass
with_class earlier t (Some class) = with_members earlier t class (member_places t.name t.enable)

abbrev pub with_table : List Row → Option Table → Result Row TamingRule
with_table earlier None = Err BadShape
with_table earlier (Some t) = with_class earlier t (class_number t.name)

-- the row of a table, behind those of earlier tables, or the first rule that it breaks
abbrev pub row_of : List Row → Data → Result Row TamingRule
row_of earlier d = with_table earlier (table_of d)

-- a fault of a table, by the table's number and the rule
abbrev pub Found : Type 0
Found = Result (List Row) (ℕ × TamingRule)

-- what follows a table that breaks no rule
abbrev pub behind : ℕ → Result Row TamingRule → (Row → Found) → Found
behind n (Ok row) next = next row
behind n (Err rule) next = Err (n, rule)

-- the rows of all tables, one after the other; tables are counted from 1
abbrev pub rows_from : ℕ → List Row → Items → Found
rows_from n earlier no_items = Ok earlier
rows_from n earlier (item d rest) = behind n (row_of earlier d) (λ row. rows_from (n + 1) (earlier ++ row ∷ []) rest)

-- the rows of a text, or its first fault; table 0 is the text as a whole
abbrev pub rows_of : Members → Found
rows_of document = of_tables (tables_of document)
  where
    of_tables : Option Items → Found
    of_tables None = Err (0, BadShape)
    of_tables (Some tables) = rows_from 1 [] tables
