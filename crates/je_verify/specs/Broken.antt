-- The rules of Joe-E that a program breaks (Mettler, Wagner, Close, 'Joe-E: A Security-Oriented Subset of Java', NDSS 2010), all sixteen.
use Rattle.std.specs.Prelude.{◌<◌, List, length}
use Rattle.je_core.specs.Core.{CoreProgram}
use Rattle.rule_breaks.specs.declared.breaks.Break.{Break}
use Rattle.rule_breaks.specs.Breaks.{Breaks, ◌∪◌, IsAmong, IsListOf}
use Rattle.taming_db.specs.Rows.{Row}
use Rattle.static_rules.specs.StaticRules.{static_breaks}
use Rattle.field_rules.specs.FieldRules.{field_breaks}
use Rattle.selfless_rules.specs.SelflessRules.{selfless_breaks}
use Rattle.inner_capture.specs.InnerCapture.{inner_breaks}
use Rattle.ctor_escape.specs.Programs.{program_escapes}
use Rattle.use_rules.specs.Programs.{program_breaks as use_breaks}
use Rattle.je_verify.specs.declared.fault.VerifyFault.{VerifyFault}
use Rattle.je_verify.specs.declared.fault.VerifyFault.TheVariants as fault

unfoldable pub broken : CoreProgram → List Row → Breaks
broken program rows = static_breaks program rows ∪ field_breaks program rows ∪ selfless_breaks program rows ∪ inner_breaks program rows
    ∪ program_escapes program ∪ use_breaks program rows

-- No rule is broken.
abbrev pub IsUnbroken : CoreProgram → List Row → Type 0
IsUnbroken program rows = (b : Break) → ¬ IsAmong b (broken program rows)

-- All breaks, and at least one. Want of memory says nothing of the program.
pub record IsRefusal (program : CoreProgram) (rows : List Row) (list : List Break) : Type 0 where
  pub all : IsListOf (broken program rows) list
  pub some : 0 < length list

abbrev pub IsRefused : CoreProgram → List Row → VerifyFault → Type 0
IsRefused program rows fault.Memory = Unit {0}
IsRefused program rows (fault.Refused list) = IsRefusal program rows list.items
