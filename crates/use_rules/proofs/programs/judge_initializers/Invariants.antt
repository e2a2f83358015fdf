use Rattle.std.proofs.Common.{◌≡◌, drop, map}
use Rattle.je_core.specs.View.{initializer_view}
use Rattle.je_types.specs.Views.{program_of}
use Rattle.rule_breaks.specs.Breaks.{of_each}
use Rattle.rule_breaks.specs.way.Found.{followed_by}
use Rattle.taming_db.specs.View.{rows}
use Rattle.use_rules.specs.Programs.{initializer_breaks}
use Rattle.use_rules.proofs.programs.judge_initializers.Given as goal

abbrev pub invariant-loop-initializer : goal.invariant-loop-initializer
invariant-loop-initializer l = followed_by l.found (of_each (initializer_breaks (program_of l.typed) (rows l.taming)) (map initializer_view (drop l.initializer-index l.initializers))) ≡ followed_by l.fn.found (of_each (initializer_breaks (program_of l.typed) (rows l.taming)) (map initializer_view l.initializers))
