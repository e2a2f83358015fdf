use Rattle.std.proofs.Common.{◌≡◌, drop, map}
use Rattle.je_core.specs.View.{class_view, program_view}
use Rattle.rule_breaks.specs.Breaks.{of_each}
use Rattle.rule_breaks.specs.way.Found.{followed_by}
use Rattle.ctor_escape.specs.Programs.{class_escapes}
use Rattle.ctor_escape.proofs.programs.judge_classes.Given as goal

abbrev pub invariant-loop-class : goal.invariant-loop-class
invariant-loop-class l = followed_by l.found (of_each (class_escapes (program_view l.program)) (map class_view (drop l.class-index l.classes))) ≡ followed_by l.fn.found (of_each (class_escapes (program_view l.program)) (map class_view l.classes))
