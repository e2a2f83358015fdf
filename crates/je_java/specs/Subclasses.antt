-- Which class is a subclass of which (JLS 8.1.4), by the superclasses that a program names.
use Rattle.std.specs.Prelude.{ℕ, zero, suc, List, [], ◌∷◌, length, Option, Some, None, Bool, true, false, nat_eq, if◌then◌else◌}
use Rattle.je_core.specs.declared.types.ClassId.{ClassId}
use Rattle.je_core.specs.Core.{CoreClass, CoreProgram}
use Rattle.je_classes.specs.Hierarchy.{class_at}

abbrev pub superclass_in : Option CoreClass → Option ClassId
superclass_in None = None
superclass_in (Some class) = class.superclass

abbrev pub superclass_of : CoreProgram → ClassId → Option ClassId
superclass_of program class = superclass_in (class_at program class)

-- whether a class is one of a class and those above it, so many at most
abbrev pub is_among : CoreProgram → ℕ → Option ClassId → ClassId → Bool
is_among program zero own class = false
is_among program (suc n) None class = false
is_among program (suc n) (Some own) class = if nat_eq own.0 class.0 then true else is_among program n (superclass_of program own) class

-- whether the first class is the second, or a subclass of it: no chain of superclasses is longer than there are classes
abbrev pub is_subclass : CoreProgram → ClassId → ClassId → Bool
is_subclass program own class = is_among program (length program.classes) (Some own) class

-- a class and those above it, each followed by its superclass, so many at most
abbrev pub upwards_within : CoreProgram → ℕ → Option ClassId → List ClassId
upwards_within program zero own = []
upwards_within program (suc n) None = []
upwards_within program (suc n) (Some own) = own ∷ upwards_within program n (superclass_of program own)

abbrev pub upwards : CoreProgram → ClassId → List ClassId
upwards program own = upwards_within program (length program.classes) (Some own)
