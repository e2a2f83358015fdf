use Rattle.std.proofs.Common.{◌≡◌, drop}
use Rattle.je_core.specs.View.{views}
use Rattle.rule_breaks.specs.Breaks.{of_each}
use Rattle.rule_breaks.specs.way.Found.{followed_by}
use Rattle.super_equals.specs.Expressions.{calls_in}
use Rattle.super_equals.proofs.statements.walk_steps.Given as goal

abbrev pub invariant-loop-step : goal.invariant-loop-step
invariant-loop-step l = followed_by l.found (of_each calls_in (views (drop l.step-index l.steps))) ≡ followed_by l.fn.found (of_each calls_in (views l.steps))
