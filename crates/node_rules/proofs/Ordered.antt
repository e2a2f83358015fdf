-- In a program that was checked no class is above itself.
use Rattle.std.proofs.Common.{◌≡◌, ℕ, ◌<◌, List, length, refl, ap, arith}
use Rattle.std.proofs.Math.Logic.{∥∥₁_elim}
use Rattle.std.proofs.Props.{props}
use Rattle.je_base.specs.declared.span.NameId.{NameId}
use Rattle.std.proofs.lemmas.List.{length-append}
use Rattle.je_core.specs.Core.{CoreProgram}
use Rattle.je_classes.specs.Hierarchy.{IsAcyclic}
use Rattle.je_fitting.proofs.Acyclic.{acyclic}
use Rattle.je_fitting.proofs.ClassesDecided.{program_sound}
use Rattle.library_classes.specs.Library.{LibraryStands, all_due}
use Rattle.je_types.specs.declared.typed.Typed.{Typed}
use Rattle.je_types.specs.Views.{program_of}

count : (number : List ℕ → NameId) → length (all_due number) ≡ 39
unfolding all_due
count number = refl

has_classes : (p : CoreProgram) → LibraryStands p → 0 < length p.classes
has_classes p stands = omega (arith, ap length stands.first, length-append (all_due stands.number) stands.others, count stands.number)

pub never_above : (typed : Typed) → IsAcyclic (program_of typed)
never_above typed = acyclic (program_of typed) (program_sound (program_of typed) typed.fits) (∥∥₁_elim typed.library (search props) (λ s. has_classes (program_of typed) s))
