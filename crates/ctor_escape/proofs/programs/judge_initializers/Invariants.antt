use Rattle.std.proofs.Common.{◌≡◌, drop, map}
use Rattle.je_core.specs.View.{initializer_view, program_view}
use Rattle.rule_breaks.specs.Breaks.{of_each}
use Rattle.rule_breaks.specs.way.Found.{followed_by}
use Rattle.ctor_escape.specs.Programs.{initializer_escapes}
use Rattle.ctor_escape.proofs.programs.judge_initializers.Given as goal

abbrev pub invariant-loop-initializer : goal.invariant-loop-initializer
invariant-loop-initializer l = followed_by l.found (of_each (initializer_escapes (program_view l.program)) (map initializer_view (drop l.initializer-index l.initializers))) ≡ followed_by l.fn.found (of_each (initializer_escapes (program_view l.program)) (map initializer_view l.initializers))
