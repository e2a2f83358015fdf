use Rattle.std.proofs.Common.{◌≡◌, None}
use Rattle.je_core.specs.View.{class_view, program_view}
use Rattle.je_fitting.specs.way.Misfits.{least_failing, field_passes}
use Rattle.fit_program.proofs.misfit.first_field.Given as goal

abbrev pub invariant-loop-at : goal.invariant-loop-at
invariant-loop-at l = least_failing (field_passes (program_view l.program) l.id (class_view l.class)) l.at ≡ None
