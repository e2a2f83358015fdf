-- The instance fields of one class.
use Rattle.std.specs.Prelude.{List, filter}
use Rattle.je_core.specs.declared.types.ClassId.{ClassId}
use Rattle.je_core.specs.Core.{CoreField, CoreProgram}
use Rattle.je_classes.specs.Fields.{fields_in}
use Rattle.je_classes.specs.Hierarchy.{class_at}
use Rattle.je_classes.specs.Slots.{is_instance}

abbrev pub instance_fields : CoreProgram → ClassId → List CoreField
instance_fields program class = filter is_instance (fields_in (class_at program class))
