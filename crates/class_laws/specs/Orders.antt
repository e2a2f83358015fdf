-- Subclasses and subtypes are partial orders (JLS 4.10, 8.1.4, 9.1.3).
use Rattle.std.specs.Prelude.{◌≡◌, [], true}
use Rattle.je_core.specs.declared.types.ClassId.{ClassId}
use Rattle.je_core.specs.declared.types.Ty.{Ty}
use Rattle.je_core.specs.Core.{CoreProgram}
use Rattle.je_classes.specs.Hierarchy.{supers_of, object_class, Below, IsAcyclic}
use Rattle.je_classes.specs.Subtypes.{is_reference, Subtype}

-- ---- classes

abbrev pub BelowIsReflexive : Type 0
BelowIsReflexive = (program : CoreProgram) (c : ClassId) → Below program c c

abbrev pub BelowIsTransitive : Type 0
BelowIsTransitive = (program : CoreProgram) (c d e : ClassId) → Below program c d → Below program d e → Below program c e

abbrev pub BelowIsAntisymmetric : Type 0
BelowIsAntisymmetric = (program : CoreProgram) → IsAcyclic program →
    (c d : ClassId) → Below program c d → Below program d c → c ≡ d

-- ---- types

abbrev pub SubtypeIsReflexive : Type 0
SubtypeIsReflexive = (program : CoreProgram) (t : Ty) → is_reference t ≡ true → Subtype program t t

abbrev pub SubtypeIsTransitive : Type 0
SubtypeIsTransitive = (program : CoreProgram) (s t u : Ty) → Subtype program s t → Subtype program t u → Subtype program s u

abbrev pub SubtypeIsAntisymmetric : Type 0
SubtypeIsAntisymmetric = (program : CoreProgram) → IsAcyclic program → supers_of program object_class ≡ [] →
    (s t : Ty) → Subtype program s t → Subtype program t s → s ≡ t
