use Rattle.std.proofs.Common.{◌≡◌, ℕ, ◌≤◌, length}
use Rattle.program_tables.specs.Known.{round_seen}
use Rattle.body_places.specs.Tables.{constant_at}
use Rattle.member_forms.specs.Bodies.{program_in}
use Rattle.class_typing.specs.ConstantFields.{constants_within, field_value}
use Rattle.field_values.specs.Values.{value_at}
use Rattle.type_decl.specs.way.Asked.{is_asked}
use Rattle.type_decl.proofs.rounds.constants_told.Given as goal

abbrev pub invariant-loop : goal.invariant-loop
invariant-loop l = record {
  whole : length l.fields.values.now ≤ length l.constants.items;
  told : (hidden : ℕ → ℕ) → value_at l.fields.values.now ≡ field_value (program_in l.bodies) hidden →
      constant_at l.constants.items
      ≡ constants_within (program_in l.bodies) hidden (round_seen l.fields.round.now) l.counter (is_asked l.fields.asked.now) (constant_at l.initial.constants.items);
}
