-- What a rule says of each class of a program's own, and of the classes above one (JLS 8.1.4).
use Rattle.std.specs.Prelude.{ℕ, zero, suc, Bool, false, not, ◌&&◌, List, [], ◌∷◌, length, Option, Some, None, if◌then◌else◌}
use Rattle.std.specs.List.{list_any}
use Rattle.je_core.specs.declared.types.ClassId.{ClassId}
use Rattle.je_core.specs.Core.{CoreField, CoreClass, CoreProgram}
use Rattle.je_classes.specs.Hierarchy.{class_at}
use Rattle.je_fitting.specs.Classes.{is_hidden}
use Rattle.je_fitting.specs.Members.{is_guest}
use Rattle.rule_breaks.specs.Breaks.{Breaks, none, ◌∪◌}

abbrev pub numbered : ℕ → ClassId
numbered n = record { 0 = n }

abbrev pub of_guest : (ClassId → CoreClass → Breaks) → ClassId → CoreClass → Breaks
of_guest breaks id c = if is_guest id then breaks id c else none

-- the classes from that number on
abbrev pub guests_from : (ClassId → CoreClass → Breaks) → ℕ → List CoreClass → Breaks
guests_from breaks n [] = none
guests_from breaks n (c ∷ cs) = of_guest breaks (numbered n) c ∪ guests_from breaks (suc n) cs

-- the breaks of each class of the program's own
abbrev pub of_each_guest : (ClassId → CoreClass → Breaks) → CoreProgram → Breaks
of_each_guest breaks program = guests_from breaks 0 program.classes

abbrev pub superclass_in : Option CoreClass → Option ClassId
superclass_in None = None
superclass_in (Some c) = c.superclass

-- the classes of the program's own upwards from one, so many at most; above a class of the library stands no other
abbrev pub guests_upwards : CoreProgram → ℕ → Option ClassId → List ClassId
guests_upwards program n None = []
guests_upwards program zero (Some s) = []
guests_upwards program (suc n) (Some s) = if is_guest s then s ∷ guests_upwards program n (superclass_in (class_at program s)) else []

-- the superclasses of the program's own, the nearest first; no chain of superclasses has more than there are classes
unfoldable pub guest_superclasses : CoreProgram → CoreClass → List ClassId
guest_superclasses program c = guests_upwards program (length program.classes) c.superclass

abbrev pub passes : (CoreClass → Bool) → Option CoreClass → Bool
passes test None = false
passes test (Some c) = test c

-- a superclass of the program's own passes the test
abbrev pub has_superclass_that : (CoreClass → Bool) → CoreProgram → CoreClass → Bool
has_superclass_that test program c = list_any (λ s. passes test (class_at program s)) (guest_superclasses program c)

-- an instance field that a class declares: no hidden one, which the source doesn't have
abbrev pub is_declared : CoreField → Bool
is_declared f = not f.is_static && not (is_hidden f)
