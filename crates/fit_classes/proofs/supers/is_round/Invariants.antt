use Rattle.std.proofs.Common.{◌≡◌, length}
use Rattle.je_core.specs.View.{program_view}
use Rattle.je_fitting.specs.Classes.{is_round}
use Rattle.fit_classes.proofs.supers.is_round.Given as goal

abbrev pub invariant-loop-left : goal.invariant-loop-left
invariant-loop-left l = is_round (program_view l.program) l.left l.class l.within ≡ is_round (program_view l.program) (length (program_view l.program).classes) l.class l.fn.innermost

abbrev pub decreases-loop-left : goal.decreases-loop-left
decreases-loop-left l = l.left
