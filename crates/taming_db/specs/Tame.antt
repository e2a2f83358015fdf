-- A taming text enables tame members alone.
use Rattle.std.specs.Prelude.{◌≡◌, ℕ, Bool, true, List, Ok}
use Rattle.std.specs.List.{list_all}
use Rattle.taming_db.specs.Rows.{Row, is_tame}
use Rattle.taming_db.specs.Taming.{Says}

-- each member that a row enables is tame
abbrev pub enables_tame : Row → Bool
enables_tame row = list_all is_tame row.enable

-- each row does
abbrev pub enable_tame : List Row → Bool
enable_tame rows = list_all enables_tame rows

abbrev pub WhatIsEnabledIsTame : Type 0
WhatIsEnabledIsTame = (bytes : List ℕ) (rows : List Row) → Says bytes (Ok rows) → enable_tame rows ≡ true
