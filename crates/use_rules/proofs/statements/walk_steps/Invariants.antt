use Rattle.std.proofs.Common.{◌≡◌, drop}
use Rattle.je_core.specs.View.{views}
use Rattle.je_types.specs.Views.{program_of}
use Rattle.rule_breaks.specs.Breaks.{of_each}
use Rattle.rule_breaks.specs.way.Found.{followed_by}
use Rattle.taming_db.specs.View.{rows}
use Rattle.use_rules.specs.Expressions.{expression_breaks}
use Rattle.use_rules.proofs.statements.walk_steps.Given as goal

abbrev pub invariant-loop-step : goal.invariant-loop-step
invariant-loop-step l = followed_by l.found (of_each (expression_breaks (program_of l.typed) (rows l.taming)) (views (drop l.step-index l.steps))) ≡ followed_by l.fn.found (of_each (expression_breaks (program_of l.typed) (rows l.taming)) (views l.steps))
