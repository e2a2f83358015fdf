use Rattle.std.proofs.Common.{◌≡◌, None}
use Rattle.je_core.specs.View.{program_view}
use Rattle.je_fitting.specs.way.Misfits.{least_failing, class_passes}
use Rattle.fit_program.proofs.misfit.first_misfit.Given as goal

abbrev pub invariant-loop-at : goal.invariant-loop-at
invariant-loop-at l = least_failing (class_passes (program_view l.program)) l.at ≡ None
