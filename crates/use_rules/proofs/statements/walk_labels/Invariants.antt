use Rattle.std.proofs.Common.{◌≡◌, drop, map}
use Rattle.je_core.specs.View.{label_view}
use Rattle.rule_breaks.specs.Breaks.{of_each}
use Rattle.rule_breaks.specs.way.Found.{followed_by}
use Rattle.taming_db.specs.View.{rows}
use Rattle.use_rules.specs.Statements.{label_breaks}
use Rattle.use_rules.proofs.statements.walk_labels.Given as goal

abbrev pub invariant-loop-label : goal.invariant-loop-label
invariant-loop-label l = followed_by l.found (of_each (label_breaks (rows l.taming)) (map label_view (drop l.label-index l.labels))) ≡ followed_by l.fn.found (of_each (label_breaks (rows l.taming)) (map label_view l.labels))
