use Rattle.std.proofs.Common.{◌≡◌, ℕ, ◌<◌, length, map}
use Rattle.std.specs.Prelude.{slice_get, unwrap_or}
use Rattle.body_places.specs.Places.{frame_seen}
use Rattle.body_places.specs.Tables.{constant_in}
use Rattle.member_forms.specs.Bodies.{program_in}
use Rattle.class_typing.specs.ConstantFields.{unwritten}
use Rattle.field_values.specs.Values.{value_seen}
use Rattle.type_decl.specs.way.Rows.{constant_due}
use Rattle.type_decl.proofs.judging.constants_by.Given as goal

abbrev pub invariant-loop-at : goal.invariant-loop-at
invariant-loop-at l = record {
  whole : length l.row.items ≡ l.at;
  each : (k : ℕ) → k < l.at → constant_in (slice_get l.row.items k)
      ≡ constant_due (program_in l.bodies) (map frame_seen l.round) (record { class = l.class; at = k }) (unwrap_or (slice_get (map value_seen l.values) k) unwritten);
}
