use Rattle.std.proofs.Common.{◌≡◌, drop, map}
use Rattle.je_core.specs.View.{field_view}
use Rattle.flow_base.specs.way.Kept.{first_of}
use Rattle.variable_sets.specs.SetView.{set_view}
use Rattle.definite_assignment.specs.Programs.{left_faults}
use Rattle.definite_assignment.proofs.programs.add_unassigned.Given as goal

abbrev pub invariant-loop-field : goal.invariant-loop-field
invariant-loop-field l = record {
  place : l.at ≡ l.field-index;
  faults : first_of l.found (left_faults l.is_static (set_view l.set) l.at (map field_view (drop l.field-index l.fields))) ≡ first_of l.fn.found (left_faults l.is_static (set_view l.set) 0 (map field_view l.fields));
}
