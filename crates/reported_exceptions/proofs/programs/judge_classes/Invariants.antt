use Rattle.std.proofs.Common.{◌≡◌, ◌≤◌, drop, map, length}
use Rattle.je_core.specs.View.{class_view, program_view}
use Rattle.flow_base.specs.way.Kept.{first_of}
use Rattle.reported_exceptions.specs.Programs.{makings, classes_faults}
use Rattle.reported_exceptions.specs.View.{rows}
use Rattle.reported_exceptions.proofs.programs.judge_classes.Given as goal

-- the classes from there on are judged
abbrev pub invariant-loop-at : goal.invariant-loop-at
invariant-loop-at l = record {
  within : l.at ≤ length l.classes;
  makings : rows l.makings.items ≡ makings (program_view l.program) (map class_view (drop l.at l.classes));
  faults : l.found ≡ first_of l.fn.found (classes_faults (program_view l.program) (map class_view (drop l.at l.classes)));
}

abbrev pub decreases-loop-at : goal.decreases-loop-at
decreases-loop-at l = l.at
