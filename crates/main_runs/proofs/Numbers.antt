-- In a program that was checked the methods of the first class have numbers.
use Rattle.std.proofs.Common.{◌≡◌, ◌<◌, ◌^◌, length, Option, Some, None, refl, lit<, arith}
use Rattle.std.proofs.Math.Logic.{∥∥₁_elim}
use Rattle.std.proofs.Props.{props}
use Rattle.je_core.specs.Core.{CoreClass, CoreProgram}
use Rattle.je_classes.specs.Hierarchy.{class_at}
use Rattle.je_classes.specs.Members.{methods_in, methods_of}
use Rattle.je_fitting.proofs.ClassesDecided.{at-place}
use Rattle.je_types.specs.declared.typed.Typed.{Typed}
use Rattle.je_types.specs.Limits.{ClassIsSmall, IsSmall}
use Rattle.je_types.specs.Views.{program_of}
use Rattle.main_runs.specs.Mains.{first_class}

few_methods : (p : CoreProgram) → IsSmall p → length (methods_of p first_class) < 2 ^ 32
few_methods p small = by (class_at p first_class) refl
  where
    by : (found : Option CoreClass) → class_at p first_class ≡ found → length (methods_in found) < 2 ^ 32
    by None e = lit< tt
    by (Some c) e = let own = at-place ClassIsSmall p.classes first_class.0 c small.each e in omega (arith, own.methods)

pub typed_methods : (typed : Typed) → length (methods_of (program_of typed) first_class) < 2 ^ 32
typed_methods typed = ∥∥₁_elim typed.small (search props) (few_methods (program_of typed))
