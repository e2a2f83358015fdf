-- The shape of a taming text, over the data that its TOML stands for.
use Rattle.std.specs.Prelude.{ℕ, ℤ, pos, ◌==◌, List, [], ◌∷◌, Bool, true, false, ◌&&◌, ◌||◌, codes, if◌then◌else◌, Option, Some, None, option_map, option_and_then}
use Rattle.std.specs.Str.{bytes_eq}
use Rattle.toml.specs.Data.{Data, Items, no_items, item, Members, no_members, member, get_member, as_str, as_bool, as_integer, as_array, as_table}
use Rattle.taming_db.specs.declared.marker.Marker.{Marker}
use Rattle.taming_db.specs.Markers.{named}

-- what a table says of the class that it names
pub record Table : Type 0 where
  pub name : List ℕ
  pub honorary : List Marker
  pub extend : Bool
  pub enable : List (List ℕ)

-- no other key stands
abbrev pub has_only : (List ℕ → Bool) → Members → Bool
has_only is_key no_members = true
has_only is_key (member key d rest) = is_key key && has_only is_key rest

-- an array of texts
abbrev pub texts_of : Items → Option (List (List ℕ))
texts_of no_items = Some []
texts_of (item d rest) = option_and_then (λ text. option_map (λ texts. text ∷ texts) (texts_of rest)) (as_str d)

abbrev pub markers_of : List (List ℕ) → Option (List Marker)
markers_of [] = Some []
markers_of (text ∷ rest) = option_and_then (λ m. option_map (λ ms. m ∷ ms) (markers_of rest)) (named text)

-- the texts of a key; none where the key isn't there
abbrev pub texts_at : Option Data → Option (List (List ℕ))
texts_at None = Some []
texts_at (Some d) = option_and_then texts_of (as_array d)

-- the truth value of a key; false where the key isn't there
abbrev pub flag_at : Option Data → Option Bool
flag_at None = Some false
flag_at (Some d) = as_bool d

abbrev pub is_table_key : List ℕ → Bool
is_table_key key = bytes_eq key (codes "name") || bytes_eq key (codes "honorary") || bytes_eq key (codes "extend") || bytes_eq key (codes "enable")

-- one table; none where it is not of the shape
abbrev pub table_of_members : Members → Option Table
table_of_members ms =
    if has_only is_table_key ms
    then option_and_then (λ name.
    option_and_then (λ honorary.
    option_and_then (λ extend.
    option_map (λ enable. record { name = name; honorary = honorary; extend = extend; enable = enable })
    (texts_at (get_member (codes "enable") ms)))
    (flag_at (get_member (codes "extend") ms)))
    (option_and_then markers_of (texts_at (get_member (codes "honorary") ms))))
    (option_and_then as_str (get_member (codes "name") ms))
    else None

abbrev pub table_of : Data → Option Table
table_of d = option_and_then table_of_members (as_table d)

abbrev pub is_one : Option ℤ → Bool
is_one (Some (pos n)) = n == 1
is_one _ = false

-- the version is the integer 1
abbrev pub is_version : Option Data → Bool
is_version None = false
is_version (Some d) = is_one (as_integer d)

abbrev pub tables_at : Option Data → Option Items
tables_at None = Some no_items
tables_at (Some d) = as_array d

abbrev pub is_document_key : List ℕ → Bool
is_document_key key = bytes_eq key (codes "version") || bytes_eq key (codes "class")

-- an array each item of which is a table
abbrev pub are_tables : Items → Bool
are_tables no_items = true
are_tables (item d rest) = is_table (as_table d) && are_tables rest
  where
    is_table : Option Members → Bool
    is_table None = false
    is_table (Some ms) = true

-- the tables of a text; none where its top level is not of the shape
abbrev pub tables_of : Members → Option Items
tables_of ms = if is_version (get_member (codes "version") ms) && has_only is_document_key ms then option_and_then all_tables (tables_at (get_member (codes "class") ms)) else None
  where
    all_tables : Items → Option Items
    all_tables items = if are_tables items then Some items else None
