-- The classes directly inside a class (JLS 8.1.3), in the order of their numbers. Those of a program's own have that of the text.
use Rattle.std.specs.Prelude.{Vec, ◌≡◌, slice_get, ℕ, suc, Bool, true, false, not, ◌||◌, List, [], ◌∷◌, filter, filter_map, Option, Some, None, if◌then◌else◌}
use Rattle.std.specs.declared.alloc.Global.{Global}
use Rattle.je_core.specs.declared.program.Sort.{Sort}
use Rattle.je_core.specs.declared.program.Sort.TheVariants as sort
use Rattle.je_core.specs.declared.types.ClassId.{ClassId}
use Rattle.je_core.specs.Core.{CoreClass, CoreProgram}
use Rattle.je_classes.specs.Hierarchy.{class_at, same_class}
use Rattle.captured_reads.specs.declared.nesting.LocalClass.{LocalClass}

abbrev pub is_in_class : ClassId → Option ClassId → Bool
is_in_class class None = false
is_in_class class (Some within) = same_class class within

-- those of a list of classes, the first of which has this number
abbrev pub inside_from : ClassId → ℕ → List CoreClass → List ClassId
inside_from class n [] = []
inside_from class n (c ∷ cs) = if is_in_class class c.within then record { 0 = n } ∷ inside_from class (suc n) cs else inside_from class (suc n) cs

abbrev pub inside_if_there : CoreProgram → ClassId → Option CoreClass → List ClassId
inside_if_there program class None = []
inside_if_there program class (Some c) = inside_from class 0 program.classes

unfoldable pub classes_inside : CoreProgram → ClassId → List ClassId
classes_inside program class = inside_if_there program class (class_at program class)

abbrev pub is_local : Sort → Bool
is_local sort.Local = true
is_local _ = false

abbrev pub is_anonymous : Sort → Bool
is_anonymous sort.Anonymous = true
is_anonymous _ = false

-- the classes that blocks declare (JLS 14.3)

abbrev pub local_class_in : ClassId → Option CoreClass → Option LocalClass
local_class_in class None = None
local_class_in class (Some c) = if is_local c.kind.sort then Some (record { class = class; span = c.span }) else None

abbrev pub local_classes : CoreProgram → ClassId → List LocalClass
local_classes program class = filter_map (λ d. local_class_in d (class_at program d)) (classes_inside program class)

-- the member classes (JLS 8.5)

abbrev pub is_member_in : Option CoreClass → Bool
is_member_in None = false
is_member_in (Some c) = not (is_local c.kind.sort || is_anonymous c.kind.sort)

abbrev pub member_classes : CoreProgram → ClassId → List ClassId
member_classes program class = filter (λ d. is_member_in (class_at program d)) (classes_inside program class)

abbrev pub listed : Option (Vec ClassId Global) → List ClassId
listed None = []
listed (Some list) = list.items

-- Of each class the list of its number has the classes directly inside it.
abbrev pub IsNested : CoreProgram → List (Vec ClassId Global) → Type 0
IsNested program lists = (class : ClassId) → listed (slice_get lists class.0) ≡ classes_inside program class
