use Rattle.std.proofs.Common.{◌≡◌, Some, drop}
use Rattle.je_core.specs.View.{program_view}
use Rattle.je_fitting.specs.way.Deciding.{leads_to}
use Rattle.fit_parts.proofs.captures.leads_to.Given as goal

abbrev pub invariant-loop-step : goal.invariant-loop-step
invariant-loop-step l = leads_to (program_view l.program) (Some l.ty) (drop l.step-index l.path) ≡ leads_to (program_view l.program) (Some l.fn.from) l.path
