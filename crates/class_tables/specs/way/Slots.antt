-- What the table of fields has.
use Rattle.std.specs.Prelude.{◌≡◌, ℕ, ◌<◌, List, [], length, take, count_by, Option, Some, None, slice_get, unwrap_or}
use Rattle.std.specs.Global.{Vec}
use Rattle.je_core.specs.declared.types.ClassId.{ClassId}
use Rattle.je_core.specs.Core.{CoreField, CoreClass, CoreProgram}
use Rattle.je_classes.specs.Members.{In}
use Rattle.je_classes.specs.Slots.{is_instance, slot_fields}
use Rattle.je_classes.specs.Statics.{statics_before}
use Rattle.class_tables.specs.way.Order.{first_super}

-- how many slots the instances of a class have
abbrev pub total_of : CoreProgram → ClassId → ℕ
total_of p c = length (slot_fields p (Some c))

-- what a table has for a class, 0 for one that isn't there
abbrev pub known : List ℕ → ClassId → ℕ
known totals c = unwrap_or (slice_get totals c.0) 0

abbrev pub known_above : List ℕ → Option ClassId → ℕ
known_above totals None = 0
known_above totals (Some c) = known totals c

-- the total of the first super of a class is known
abbrev pub IsKnownAbove : CoreProgram → List ℕ → ClassId → Type 0
IsKnownAbove p totals c = (d : ClassId) → first_super p c ≡ Some d → known totals d ≡ total_of p d

-- the totals of some classes are known
pub record AreTotals (p : CoreProgram) (classes : List ClassId) (totals : List ℕ) : Type 0 where
  pub count : length totals ≡ length p.classes
  pub each : (c : ClassId) → In classes c → c.0 < length p.classes → known totals c ≡ total_of p c

-- of each field how many instance fields stand before it
pub record AreCounts (fs : List CoreField) (counts : List ℕ) : Type 0 where
  pub count : length counts ≡ length fs
  pub each : (at : ℕ) → at < length fs → slice_get counts at ≡ Some (count_by is_instance (take at fs))

-- how many static fields stand in the classes before each
pub record AreStatics (p : CoreProgram) (places : List ℕ) : Type 0 where
  pub count : length places ≡ length p.classes
  pub each : (i : ℕ) → i < length p.classes → slice_get places i ≡ Some (statics_before p i)

abbrev pub list_at : Option (Vec ℕ) → ℕ → Option ℕ
list_at None at = None
list_at (Some counts) at = slice_get counts.items at

abbrev pub fields_at : Option CoreClass → List CoreField
fields_at None = []
fields_at (Some c) = c.fields

-- of each field of each class how many instance fields stand before it
pub record AreBefore (p : CoreProgram) (before : List (Vec ℕ)) : Type 0 where
  pub count : length before ≡ length p.classes
  pub each : (i at : ℕ) → i < length p.classes → at < length (fields_at (slice_get p.classes i)) →
      list_at (slice_get before i) at ≡ Some (count_by is_instance (take at (fields_at (slice_get p.classes i))))
