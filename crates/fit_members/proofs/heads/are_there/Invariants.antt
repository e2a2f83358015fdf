use Rattle.std.proofs.Common.{◌≡◌, drop}
use Rattle.std.specs.Prelude.{is_some}
use Rattle.std.specs.List.{list_all}
use Rattle.je_core.specs.View.{program_view}
use Rattle.je_classes.specs.Hierarchy.{class_at}
use Rattle.fit_members.proofs.heads.are_there.Given as goal

abbrev pub invariant-loop-class : goal.invariant-loop-class
invariant-loop-class l = list_all (λ d. is_some (class_at (program_view l.program) d)) (drop l.class-index l.classes) ≡ list_all (λ d. is_some (class_at (program_view l.program) d)) l.classes
