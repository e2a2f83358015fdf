use Rattle.std.proofs.Common.{◌≡◌, drop, map}
use Rattle.je_core.specs.View.{field_view}
use Rattle.variable_sets.specs.SetView.{set_view}
use Rattle.definite_assignment.specs.Programs.{other_fields}
use Rattle.definite_assignment.proofs.programs.other_fields.Given as goal

abbrev pub invariant-loop-field : goal.invariant-loop-field
invariant-loop-field l = record {
  place : l.at ≡ l.field-index;
  set : other_fields l.rule l.is_static (map field_view (drop l.field-index l.fields)) l.at (set_view l.all) ≡ other_fields l.rule l.is_static (map field_view l.fields) 0 (set_view l.fn.set);
}
