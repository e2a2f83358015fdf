-- The world before the load of a program is sound.
use Rattle.std.specs.Prelude.{◌≡◌, true, List, is_some}
use Rattle.std.specs.List.{All}
use Rattle.je_core.specs.Core.{CoreProgram}
use Rattle.je_core.specs.declared.types.ClassId.{ClassId}
use Rattle.je_classes.specs.Hierarchy.{class_at}
use Rattle.je_fitting.specs.Program.{FitsProgram}
use Rattle.je_load.specs.Loading.{world_before}
use Rattle.je_sound.specs.Objects.{is_device_interface}
use Rattle.je_sound.specs.Worlds.{Sound}

-- The interface is one of the five of devices, and the program has it.
abbrev pub IsOfDevice : CoreProgram → ClassId → Type 0
IsOfDevice program interface = (is_some (class_at program interface) ≡ true) × (is_device_interface interface ≡ true)

abbrev pub FirstWorldsAreSound : Type 0
FirstWorldsAreSound = (program : CoreProgram) (interfaces : List ClassId) → FitsProgram program →
    All (IsOfDevice program) interfaces → Sound program (world_before program interfaces)
