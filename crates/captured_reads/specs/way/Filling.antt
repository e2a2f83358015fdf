-- Lists of the classes directly inside each class, as they are filled.
use Rattle.std.specs.Prelude.{◌≡◌, ℕ, ◌<◌, Vec, List, [], ◌∷◌, ◌++◌, Option, drop, length, map, slice_index_or, if◌then◌else◌}
use Rattle.std.specs.declared.alloc.Global.{Global}
use Rattle.je_core.specs.declared.types.ClassId.{ClassId}
use Rattle.je_core.specs.Core.{CoreClass}
use Rattle.captured_reads.specs.Nesting.{inside_from, is_in_class}

abbrev pub contents : List (Vec ClassId Global) → List (List ClassId)
contents lists = map (λ (list : Vec ClassId Global). list.items) lists

abbrev pub list_at : List (Vec ClassId Global) → ClassId → List ClassId
list_at lists class = slice_index_or (contents lists) class.0 []

abbrev pub AreEmpty : List (Vec ClassId Global) → Type 0
AreEmpty lists = (class : ClassId) → list_at lists class ≡ []

-- A list has one class more, that of the class directly round it.
abbrev pub HasOneMore : Option ClassId → ClassId → List (Vec ClassId Global) → List (Vec ClassId Global) → Type 0
HasOneMore within id old new =
    (class : ClassId) → class.0 < length old → list_at new class ≡ list_at old class ++ (if is_in_class class within then id ∷ [] else [])

-- They have the first so many classes.
abbrev pub AreFilled : List CoreClass → ℕ → List (Vec ClassId Global) → Type 0
AreFilled classes n lists =
    (class : ClassId) → class.0 < length lists → list_at lists class ++ inside_from class n (drop n classes) ≡ inside_from class 0 classes
