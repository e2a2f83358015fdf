-- The classes above a class, as a list.
use Rattle.std.specs.Prelude.{◌≡◌, ◌&&◌, List, length, nat_lt}
use Rattle.je_core.specs.declared.types.ClassId.{ClassId}
use Rattle.je_core.specs.Core.{CoreProgram}
use Rattle.je_classes.specs.Hierarchy.{is_below}
use Rattle.je_classes.specs.way.Reaching.{has}

-- It has the class itself and those above it, as far as they are there, and no others.
pub record AreAbove (program : CoreProgram) (class : ClassId) (classes : List ClassId) : Type 0 where
  pub each : (d : ClassId) → has classes d ≡ (nat_lt d.0 (length program.classes) && is_below program class d)
