use Rattle.std.proofs.Common.{◌≡◌, drop, map}
use Rattle.je_core.specs.View.{method_view, program_view}
use Rattle.rule_breaks.specs.Breaks.{of_each}
use Rattle.rule_breaks.specs.way.Found.{followed_by}
use Rattle.selfless_rules.specs.SelflessRules.{identity_breaks}
use Rattle.selfless_rules.proofs.selfless.judge_methods.Given as goal

abbrev pub invariant-loop-method : goal.invariant-loop-method
invariant-loop-method l = followed_by l.found (of_each (identity_breaks (program_view l.program)) (map method_view (drop l.method-index l.methods)))
    ≡ followed_by l.fn.found (of_each (identity_breaks (program_view l.program)) (map method_view l.methods))
