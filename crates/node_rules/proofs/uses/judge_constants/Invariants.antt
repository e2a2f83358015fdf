use Rattle.std.proofs.Common.{◌≡◌, drop}
use Rattle.rule_breaks.specs.Breaks.{of_each}
use Rattle.rule_breaks.specs.way.Found.{followed_by}
use Rattle.taming_db.specs.View.{rows}
use Rattle.node_rules.specs.Uses.{constant_breaks}
use Rattle.node_rules.proofs.uses.judge_constants.Given as goal

abbrev pub invariant-loop-one : goal.invariant-loop-one
invariant-loop-one l = followed_by l.found (of_each (constant_breaks (rows l.taming)) (drop l.one-index l.uses)) ≡ followed_by l.fn.found (of_each (constant_breaks (rows l.taming)) l.uses)
