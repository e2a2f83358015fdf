use Rattle.std.proofs.Common.{◌≡◌, drop}
use Rattle.je_core.specs.View.{views, program_view}
use Rattle.rule_breaks.specs.Breaks.{of_each}
use Rattle.rule_breaks.specs.way.Found.{followed_by}
use Rattle.ctor_escape.specs.Expressions.{escapes}
use Rattle.ctor_escape.proofs.statements.walk_steps.Given as goal

abbrev pub invariant-loop-step : goal.invariant-loop-step
invariant-loop-step l = followed_by l.found (of_each (escapes (program_view l.program)) (views (drop l.step-index l.steps))) ≡ followed_by l.fn.found (of_each (escapes (program_view l.program)) (views l.steps))
