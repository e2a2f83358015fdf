use Rattle.std.proofs.Common.{◌≡◌, drop}
use Rattle.std.specs.List.{list_all}
use Rattle.je_core.specs.View.{views, program_view}
use Rattle.je_fitting.specs.way.Deciding.{is_fit}
use Rattle.fit_statements.proofs.statements.steps_fit.Given as goal

abbrev pub invariant-loop-step : goal.invariant-loop-step
invariant-loop-step l = list_all (is_fit (program_view l.program) l.body) (views (drop l.step-index l.steps)) ≡ list_all (is_fit (program_view l.program) l.body) (views l.steps)
