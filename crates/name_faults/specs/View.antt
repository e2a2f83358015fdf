-- The faults of names in memory, as contracts see them.
use Rattle.std.specs.Prelude.{◌≡◌, ℕ, List, Option, Some, None, option_map}
use Rattle.je_scopes.specs.Faults.{Fault, earlier_of, least}
use Rattle.name_faults.specs.declared.faults.FaultKind.{FaultKind}
use Rattle.name_faults.specs.declared.faults.FaultKind.TheVariants as kind
use Rattle.name_faults.specs.declared.faults.Faults.{Faults}
use Rattle.name_faults.specs.declared.faults.NameFault.{NameFault}

abbrev pub kind_number : FaultKind → ℕ
kind_number kind.Twice = 1
kind_number kind.Unknown = 2
kind_number kind.Cycle = 3
kind_number kind.NotAccessible = 4
kind_number kind.OutOfProfile = 5

abbrev pub fault_view : NameFault → Fault
fault_view f = record { number = kind_number f.kind; span = f.span }

-- the first of what was found
unfoldable pub first_of : Faults → Option Fault
first_of fs = option_map fault_view fs.first

-- the first of two
abbrev pub earliest : Option Fault → Option Fault → Option Fault
earliest None b = b
earliest (Some f) b = Some (earlier_of f b)

-- These faults were found: the first is now the first of what it was before and of these.
pub record Adds (old new : Faults) (found : List Fault) : Type 0 where
  pub first : first_of new ≡ earliest (first_of old) (least found)
