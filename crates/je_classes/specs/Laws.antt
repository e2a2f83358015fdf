-- What the tests decide.
use Rattle.std.specs.Prelude.{◌≡◌, ◌↔◌, [], true}
use Rattle.je_core.specs.declared.types.ClassId.{ClassId}
use Rattle.je_core.specs.declared.types.Ty.{Ty}
use Rattle.je_core.specs.Core.{CoreProgram}
use Rattle.je_classes.specs.Hierarchy.{is_below, Below, supers_of, object_class}
use Rattle.je_classes.specs.Subtypes.{is_subtype, Subtype}

abbrev pub BelowIsDecided : Type 0
BelowIsDecided = (program : CoreProgram) (c d : ClassId) →
    (is_below program c d ≡ true) ↔ Below program c d

abbrev pub SubtypesAreDecided : Type 0
SubtypesAreDecided = (program : CoreProgram) (s t : Ty) → supers_of program object_class ≡ [] →
    (is_subtype program s t ≡ true) ↔ Subtype program s t
