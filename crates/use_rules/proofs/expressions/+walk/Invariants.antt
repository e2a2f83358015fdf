use Rattle.std.proofs.Common.{◌≡◌, drop}
use Rattle.je_core.specs.Core.{cores}
use Rattle.je_core.specs.View.{views}
use Rattle.je_types.specs.Views.{program_of}
use Rattle.rule_breaks.specs.way.Found.{followed_by}
use Rattle.taming_db.specs.View.{rows}
use Rattle.use_rules.specs.Expressions.{all_breaks}
use Rattle.use_rules.proofs.expressions.+walk.Given as goal

abbrev pub invariant-walk_all-loop-part : goal.invariant-walk_all-loop-part
invariant-walk_all-loop-part l = followed_by l.found (all_breaks (program_of l.typed) (rows l.taming) (cores (views (drop l.part-index l.parts)))) ≡ followed_by l.fn.found (all_breaks (program_of l.typed) (rows l.taming) (cores (views l.parts)))
