use Rattle.std.proofs.Common.{◌≡◌, drop}
use Rattle.std.specs.List.{list_all}
use Rattle.je_core.specs.View.{program_view}
use Rattle.je_classes.specs.Hierarchy.{class_at}
use Rattle.je_fitting.specs.Classes.{is_interface}
use Rattle.fit_classes.proofs.supers.are_interfaces.Given as goal

abbrev pub invariant-loop-class : goal.invariant-loop-class
invariant-loop-class l = list_all (λ i. is_interface (class_at (program_view l.program) i)) (drop l.class-index l.classes) ≡ list_all (λ i. is_interface (class_at (program_view l.program) i)) l.classes
