use Rattle.std.proofs.Common.{◌≡◌, drop, map}
use Rattle.je_core.specs.View.{field_view}
use Rattle.rule_breaks.specs.Breaks.{of_each}
use Rattle.rule_breaks.specs.way.Found.{followed_by}
use Rattle.selfless_rules.specs.SelflessRules.{changing_breaks}
use Rattle.selfless_rules.proofs.selfless.judge_fields.Given as goal

abbrev pub invariant-loop-field : goal.invariant-loop-field
invariant-loop-field l = followed_by l.found (of_each changing_breaks (map field_view (drop l.field-index l.fields)))
    ≡ followed_by l.fn.found (of_each changing_breaks (map field_view l.fields))
