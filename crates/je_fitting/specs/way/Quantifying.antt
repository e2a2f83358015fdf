-- Tests of every method of a program.
use Rattle.std.specs.Prelude.{ℕ, Bool, true, not, ◌||◌, length, Option, Some, None}
use Rattle.std.specs.List.{list_all}
use Rattle.je_core.specs.declared.types.ClassId.{ClassId}
use Rattle.je_core.specs.Core.{CoreMethod, CoreProgram}
use Rattle.je_classes.specs.Members.{methods_of}
use Rattle.je_fitting.specs.Expressions.{method_at, places_up_to}

abbrev pub implies : Bool → Bool → Bool
implies a b = not a || b

abbrev pub if_there : {A : Type 0} → (A → Bool) → Option A → Bool
if_there test None = true
if_there test (Some x) = test x

-- a test of each method of a class, by its place
abbrev pub each_method_of : CoreProgram → ClassId → (ℕ → CoreMethod → Bool) → Bool
each_method_of program c test = list_all (λ n. if_there (test n) (method_at program c n)) (places_up_to (length (methods_of program c)))

-- a test of each method of each class
abbrev pub each_method : CoreProgram → (ClassId → ℕ → CoreMethod → Bool) → Bool
each_method program test = list_all (λ n. each_method_of program (record { 0 = n }) (test (record { 0 = n }))) (places_up_to (length program.classes))
