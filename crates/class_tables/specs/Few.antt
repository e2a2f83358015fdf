-- How large a program may be of which there are tables.
use Rattle.std.specs.Prelude.{◌≡◌, ◌<◌, ◌^◌, length, Some}
use Rattle.je_core.specs.declared.types.ClassId.{ClassId}
use Rattle.je_core.specs.Core.{CoreClass, CoreProgram}
use Rattle.je_classes.specs.Hierarchy.{class_at}

-- Fewer than 2^31 classes, and fields in each class.
pub record AreFew (program : CoreProgram) : Type 0 where
  pub classes : length program.classes < 2 ^ 31
  pub fields : (class : ClassId) (c : CoreClass) → class_at program class ≡ Some c → length c.fields < 2 ^ 31
