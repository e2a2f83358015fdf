use Rattle.std.proofs.Common.{◌≡◌, drop, map}
use Rattle.je_core.specs.View.{class_view, method_view}
use Rattle.captured_reads.specs.NestingView.{program_of}
use Rattle.flow_base.specs.way.Kept.{first_of}
use Rattle.variable_sets.specs.SetView.{set_view}
use Rattle.definite_assignment.specs.Programs.{methods_faults}
use Rattle.definite_assignment.proofs.programs.judge_methods.Given as goal

abbrev pub invariant-loop-method : goal.invariant-loop-method
invariant-loop-method l =
    first_of l.found (methods_faults l.rule (program_of l.nesting) l.around.id (class_view l.class) (set_view l.around.start) (set_view l.around.past) (map method_view (drop l.method-index l.methods)))
    ≡ first_of l.fn.found (methods_faults l.rule (program_of l.nesting) l.around.id (class_view l.class) (set_view l.around.start) (set_view l.around.past) (map method_view l.methods))
