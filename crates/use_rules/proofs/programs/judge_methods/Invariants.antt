use Rattle.std.proofs.Common.{◌≡◌, drop, map}
use Rattle.je_core.specs.View.{method_view}
use Rattle.je_types.specs.Views.{program_of}
use Rattle.rule_breaks.specs.Breaks.{of_each}
use Rattle.rule_breaks.specs.way.Found.{followed_by}
use Rattle.taming_db.specs.View.{rows}
use Rattle.use_rules.specs.Programs.{method_breaks}
use Rattle.use_rules.proofs.programs.judge_methods.Given as goal

abbrev pub invariant-loop-method : goal.invariant-loop-method
invariant-loop-method l = followed_by l.found (of_each (method_breaks (program_of l.typed) (rows l.taming)) (map method_view (drop l.method-index l.methods))) ≡ followed_by l.fn.found (of_each (method_breaks (program_of l.typed) (rows l.taming)) (map method_view l.methods))
