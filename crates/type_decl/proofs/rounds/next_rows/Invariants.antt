use Rattle.std.proofs.Common.{◌≡◌, ℕ, ◌<◌, length, true}
use Rattle.std.specs.Prelude.{slice_get, unwrap_or}
use Rattle.source_types.specs.Erasure.{class_numbered}
use Rattle.program_tables.specs.Known.{round_seen}
use Rattle.body_places.specs.Tables as tables
use Rattle.body_places.specs.Tables.{constant_in}
use Rattle.member_forms.specs.Bodies.{program_in}
use Rattle.class_typing.specs.ConstantFields.{unwritten}
use Rattle.field_values.specs.Values.{values_in}
use Rattle.type_decl.specs.way.Asked.{is_asked}
use Rattle.type_decl.specs.way.Rows.{constant_due}
use Rattle.type_decl.proofs.rounds.next_rows.Given as goal

abbrev pub invariant-loop-at : goal.invariant-loop-at
invariant-loop-at l = record {
  whole : length l.rows.items ≡ l.at;
  each : (c : ℕ) → c < l.at → is_asked l.fields.asked.now c ≡ true → (place : ℕ) →
      constant_in (slice_get (tables.values_in (slice_get l.rows.items c)) place)
      ≡ constant_due (program_in l.bodies) (round_seen l.fields.round.now c) (record { class = class_numbered c; at = place })
      (unwrap_or (slice_get (values_in (slice_get l.fields.values.now c)) place) unwritten);
}
