use Rattle.std.proofs.Common.{◌≡◌, drop}
use Rattle.je_core.specs.Core.{cores}
use Rattle.je_core.specs.View.{views}
use Rattle.rule_breaks.specs.way.Found.{followed_by}
use Rattle.super_equals.specs.Expressions.{calls_in_all}
use Rattle.super_equals.proofs.expressions.+walk.Given as goal

abbrev pub invariant-walk_all-loop-part : goal.invariant-walk_all-loop-part
invariant-walk_all-loop-part l = followed_by l.found (calls_in_all (cores (views (drop l.part-index l.parts)))) ≡ followed_by l.fn.found (calls_in_all (cores (views l.parts)))
