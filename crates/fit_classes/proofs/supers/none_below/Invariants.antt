use Rattle.std.proofs.Common.{◌≡◌, drop}
use Rattle.std.specs.Prelude.{not}
use Rattle.std.specs.List.{list_all}
use Rattle.je_core.specs.View.{program_view}
use Rattle.je_classes.specs.Hierarchy.{is_below}
use Rattle.fit_classes.proofs.supers.none_below.Given as goal

abbrev pub invariant-loop-other : goal.invariant-loop-other
invariant-loop-other l = list_all (λ s. not (is_below (program_view l.program) s l.class)) (drop l.other-index l.classes) ≡ list_all (λ s. not (is_below (program_view l.program) s l.class)) l.classes
