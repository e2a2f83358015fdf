use Rattle.std.proofs.Common.{◌≡◌, drop}
use Rattle.rule_breaks.specs.Breaks.{of_each}
use Rattle.rule_breaks.specs.way.Found.{followed_by}
use Rattle.taming_db.specs.View.{rows}
use Rattle.class_uses.specs.Extended.{head_breaks}
use Rattle.class_uses.proofs.extended.judge_heads.Given as goal

abbrev pub invariant-loop-head : goal.invariant-loop-head
invariant-loop-head l = followed_by l.found (of_each (head_breaks (rows l.taming)) (drop l.head-index l.heads)) ≡ followed_by l.fn.found (of_each (head_breaks (rows l.taming)) l.heads)
