use Rattle.std.proofs.Common.{◌≡◌, drop, map}
use Rattle.je_core.specs.View.{method_view}
use Rattle.rule_breaks.specs.Breaks.{of_each}
use Rattle.rule_breaks.specs.way.Found.{followed_by}
use Rattle.static_rules.specs.StaticRules.{method_breaks}
use Rattle.static_rules.proofs.programs.judge_methods.Given as goal

abbrev pub invariant-loop-method : goal.invariant-loop-method
invariant-loop-method l = followed_by l.found (of_each method_breaks (map method_view (drop l.method-index l.methods)))
    ≡ followed_by l.fn.found (of_each method_breaks (map method_view l.methods))
