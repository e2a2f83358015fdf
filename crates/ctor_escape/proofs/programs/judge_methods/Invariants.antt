use Rattle.std.proofs.Common.{◌≡◌, drop, map}
use Rattle.je_core.specs.View.{method_view, program_view}
use Rattle.rule_breaks.specs.Breaks.{of_each}
use Rattle.rule_breaks.specs.way.Found.{followed_by}
use Rattle.ctor_escape.specs.Programs.{constructor_escapes}
use Rattle.ctor_escape.proofs.programs.judge_methods.Given as goal

abbrev pub invariant-loop-method : goal.invariant-loop-method
invariant-loop-method l = followed_by l.found (of_each (constructor_escapes (program_view l.program)) (map method_view (drop l.method-index l.methods))) ≡ followed_by l.fn.found (of_each (constructor_escapes (program_view l.program)) (map method_view l.methods))
