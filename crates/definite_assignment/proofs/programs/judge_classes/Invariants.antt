use Rattle.std.proofs.Common.{◌≡◌, drop, map}
use Rattle.je_core.specs.View.{class_view}
use Rattle.captured_reads.specs.NestingView.{program_of}
use Rattle.flow_base.specs.way.Kept.{first_of}
use Rattle.definite_assignment.specs.Programs.{classes_faults}
use Rattle.definite_assignment.proofs.programs.judge_classes.Given as goal

abbrev pub invariant-loop-class : goal.invariant-loop-class
invariant-loop-class l = record {
  place : l.at ≡ l.class-index;
  faults : first_of l.found (classes_faults l.rule (program_of l.nesting) l.at (map class_view (drop l.class-index l.classes))) ≡ first_of l.fn.found (classes_faults l.rule (program_of l.nesting) 0 (map class_view l.classes));
}
