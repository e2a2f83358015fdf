-- What a name finds goes by the set of what the class has under it, and nothing else (JLS 8.2, 15.12.2).
use Rattle.std.specs.Prelude.{◌≡◌, ◌↔◌, List}
use Rattle.je_base.specs.declared.span.NameId.{NameId}
use Rattle.je_core.specs.declared.types.ClassId.{ClassId}
use Rattle.je_core.specs.declared.types.Ty.{Ty}
use Rattle.je_core.specs.Core.{CoreProgram}
use Rattle.je_classes.specs.Hierarchy.{IsAcyclic}
use Rattle.je_classes.specs.Members.{Member}
use Rattle.je_classes.specs.Fields.{HasField, find_field}
use Rattle.je_classes.specs.Methods.{IsCandidate, find_method}

-- Two names find the same in two classes that have the same fields under them.
abbrev pub FieldsGoBySets : Type 0
FieldsGoBySets = (program : CoreProgram) → IsAcyclic program → (c d : ClassId) (x y : NameId) →
    ((m : Member) → HasField program x c m ↔ HasField program y d m) → find_field program c x ≡ find_field program d y

-- The same of methods, of which those count that accept the arguments.
abbrev pub MethodsGoBySets : Type 0
MethodsGoBySets = (program : CoreProgram) → IsAcyclic program → (c d : ClassId) (x y : NameId) (ss ts : List Ty) →
    ((m : Member) → IsCandidate program c x ss m ↔ IsCandidate program d y ts m) → find_method program c x ss ≡ find_method program d y ts
