-- Which class is below which (JLS 8.1.4, 8.1.5, 9.1.3).
use Rattle.std.specs.Prelude.{ℕ, zero, suc, ◌<◌, Bool, ◌||◌, List, [], ◌∷◌, length, Option, Some, None, slice_get, nat_eq, unwrap_or, codes}
use Rattle.std.specs.List.{list_any, Contains}
use Rattle.je_core.specs.declared.types.ClassId.{ClassId}
use Rattle.je_core.specs.Core.{CoreClass, CoreProgram}
use Rattle.je_table.specs.Library.{class_number}

abbrev pub class_at : CoreProgram → ClassId → Option CoreClass
class_at program class = slice_get program.classes class.0

-- a library class's number is its place in their table, since they stand first in a program
unfoldable pub library_class : List ℕ → ClassId
library_class name = record { 0 = unwrap_or (class_number name) 0 }

unfoldable pub object_class : ClassId
object_class = library_class (codes "java.lang.Object")

abbrev pub with_superclass : Option ClassId → List ClassId → List ClassId
with_superclass None interfaces = interfaces
with_superclass (Some class) interfaces = class ∷ interfaces

abbrev pub supers_in : Option CoreClass → List ClassId
supers_in None = []
supers_in (Some class) = with_superclass class.superclass class.interfaces

-- the superclass and the interfaces that a class names
abbrev pub supers_of : CoreProgram → ClassId → List ClassId
supers_of program class = supers_in (class_at program class)

abbrev pub same_class : ClassId → ClassId → Bool
same_class c d = nat_eq c.0 d.0

-- The class is the other one, or one of its supers is below it, in at most so many steps.
abbrev pub below_within : CoreProgram → ℕ → ClassId → ClassId → Bool
below_within program zero c d = same_class c d
below_within program (suc n) c d = same_class c d || list_any (λ e. below_within program n e d) (supers_of program c)

-- no chain of supers has more steps than there are classes
unfoldable pub is_below : CoreProgram → ClassId → ClassId → Bool
is_below program c d = below_within program (length program.classes) c d

-- The reflexive and transitive closure of the pairs of a class and a super that it names.
pub data Below (program : CoreProgram) : ClassId → ClassId → Type 0 where
  same : {c : ClassId} → Below program c c
  above : {c d e : ClassId} → Contains (supers_of program c) e → Below program e d → Below program c d

-- No class is above itself, and chains of supers stay within the program: each class has a depth less than the number of
-- classes, and each super has a smaller one.
pub record IsAcyclic (program : CoreProgram) : Type 0 where
  pub depth : ClassId → ℕ
  pub falls : (c d : ClassId) → Contains (supers_of program c) d → depth d < depth c
  pub within : (c : ClassId) → depth c < length program.classes
