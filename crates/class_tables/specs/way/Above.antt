-- What the table of subclasses has.
use Rattle.std.specs.Prelude.{◌≡◌, ℕ, ◌<◌, ◌^◌, ◌⊎◌, ◌||◌, Bool, true, not, List, length, filter, is_some}
use Rattle.je_core.specs.declared.types.ClassId.{ClassId}
use Rattle.je_core.specs.Core.{CoreProgram}
use Rattle.je_classes.specs.Hierarchy.{supers_of, is_below}
use Rattle.je_classes.specs.way.Reaching.{has}
use Rattle.number_maps.specs.Maps.{Family, family, IsMap, IsEmpty}
use Rattle.class_tables.specs.way.Slots.{known}
use Rattle.class_tables.specs.declared.subclasses.SubclassTable.{SubclassTable}

abbrev pub Has : List ClassId → ClassId → Type 0
Has classes c = has classes c ≡ true

-- whether a map has a class's number as a key
abbrev pub is_key : Family → ℕ → ClassId → Bool
is_key f map c = is_some (f.value map c.0)

abbrev pub is_beyond : Family → ℕ → ClassId → Bool
is_beyond f map c = not (is_key f map c)

-- the supers of a class that are no keys of a map
abbrev pub next_beyond : CoreProgram → Family → ℕ → ClassId → List ClassId
next_beyond p f map c = filter (is_beyond f map) (supers_of p c)

-- A map has the keys of another one, and the numbers of some classes.
pub record HasEach (old new : Family) (map : ℕ) (classes : List ClassId) (made : ℕ) : Type 0 where
  pub there : IsMap new made
  pub each : (c : ClassId) → c.0 < 2 ^ 31 → is_key new made c ≡ (is_key old map c || has classes c)

-- The keys of a map are the numbers of the classes at or above one.
pub record IsExact (p : CoreProgram) (f : Family) (c : ClassId) (map : ℕ) : Type 0 where
  pub there : IsMap f map
  pub each : (d : ClassId) → d.0 < length p.classes → is_key f map d ≡ is_below p c d

-- the classes at or above a class are known
abbrev pub IsKnown : CoreProgram → SubclassTable → ClassId → Type 0
IsKnown p table c = c.0 < length p.classes → IsExact p (family table.maps) c (known table.above.items c)

-- of each class they are known, or nothing is
pub record AreKnown (p : CoreProgram) (table : SubclassTable) : Type 0 where
  pub bits : (family table.maps).bits ≡ 31
  pub count : length table.above.items ≡ length p.classes
  pub empty : IsEmpty (family table.maps) 0
  pub each : (c : ClassId) → c.0 < length p.classes → IsEmpty (family table.maps) (known table.above.items c) ⊎ IsExact p (family table.maps) c (known table.above.items c)
