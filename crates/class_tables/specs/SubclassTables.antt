-- A table of which class of a program is below which.
use Rattle.std.specs.Prelude.{◌≡◌, ◌<◌, ◌^◌, length}
use Rattle.std.specs.List.{Contains}
use Rattle.je_core.specs.declared.types.ClassId.{ClassId}
use Rattle.je_core.specs.Core.{CoreProgram}
use Rattle.je_classes.specs.Hierarchy.{supers_of, is_below}
use Rattle.number_maps.specs.Maps.{family}
use Rattle.class_tables.specs.way.Above.{is_key}
use Rattle.class_tables.specs.way.Slots.{known}
use Rattle.class_tables.specs.declared.subclasses.SubclassTable.{SubclassTable}

-- Each class that is named as a super is there.
abbrev pub AreSupersThere : CoreProgram → Type 0
AreSupersThere program = (c d : ClassId) → Contains (supers_of program c) d → d.0 < length program.classes

-- It has of each class a map whose keys are the numbers of the classes at or above it.
pub record IsSubclassTableOf (program : CoreProgram) (table : SubclassTable) : Type 0 where
  pub there : AreSupersThere program
  pub each : (c d : ClassId) → c.0 < length program.classes → d.0 < length program.classes →
      is_key (family table.maps) (known table.above.items c) d ≡ is_below program c d
