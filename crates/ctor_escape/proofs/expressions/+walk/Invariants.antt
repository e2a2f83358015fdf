use Rattle.std.proofs.Common.{◌≡◌, drop}
use Rattle.je_core.specs.Core.{cores}
use Rattle.je_core.specs.View.{views, program_view}
use Rattle.rule_breaks.specs.way.Found.{followed_by}
use Rattle.ctor_escape.specs.Expressions.{all_escape}
use Rattle.ctor_escape.proofs.expressions.+walk.Given as goal

abbrev pub invariant-walk_all-loop-part : goal.invariant-walk_all-loop-part
invariant-walk_all-loop-part l = followed_by l.found (all_escape (program_view l.program) (cores (views (drop l.part-index l.parts)))) ≡ followed_by l.fn.found (all_escape (program_view l.program) (cores (views l.parts)))
