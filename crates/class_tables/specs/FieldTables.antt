-- A table of where the fields of a program's classes stand.
use Rattle.std.specs.Prelude.{◌≡◌, ℕ, Option, Some, None}
use Rattle.je_core.specs.declared.types.ClassId.{ClassId}
use Rattle.je_core.specs.Core.{CoreClass, CoreProgram}
use Rattle.je_classes.specs.Hierarchy.{class_at}
use Rattle.je_classes.specs.Slots.{slots_above}
use Rattle.class_tables.specs.Few.{AreFew}
use Rattle.class_tables.specs.way.Slots.{total_of, known, AreBefore, AreStatics}
use Rattle.class_tables.specs.declared.table.FieldTable.{FieldTable}

abbrev pub first_slot_in : CoreProgram → Option CoreClass → ℕ
first_slot_in program None = 0
first_slot_in program (Some c) = slots_above program c

-- the first slot of the fields that a class itself declares: behind those of the classes above it
abbrev pub first_slot : CoreProgram → ClassId → ℕ
first_slot program class = first_slot_in program (class_at program class)

-- It has of each class how many slots its instances have, how many static fields stand before it, and of each field how many
-- instance fields stand before it in its class.
pub record IsFieldTableOf (program : CoreProgram) (table : FieldTable) : Type 0 where
  pub few : AreFew program
  pub totals : (c : ClassId) → known table.totals.items c ≡ total_of program c
  pub before : AreBefore program table.before.items
  pub statics : AreStatics program table.statics.items
