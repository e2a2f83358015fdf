use Rattle.std.proofs.Common.{◌≡◌, ℕ, true, sym, ◌∙◌, subst, arith}
use Rattle.std.specs.Prelude.{slice_get, unwrap_or}
use Rattle.std.proofs.lemmas.Grind.{common_steps}
use Rattle.source_types.specs.Erasure.{class_numbered}
use Rattle.name_lookup.proofs.Tables.{push-each}
use Rattle.program_tables.specs.Known.{round_seen}
use Rattle.body_places.specs.Tables as tables
use Rattle.body_places.specs.Tables.{constant_in}
use Rattle.member_forms.specs.Bodies.{program_in}
use Rattle.class_typing.specs.ConstantFields.{unwritten}
use Rattle.field_values.specs.Values.{values_in}
use Rattle.type_decl.specs.way.Asked.{is_asked}
use Rattle.type_decl.specs.way.Rows.{constant_due}
use Rattle.type_decl.proofs.Due.{none_unwritten, rows_are}
use Rattle.type_decl.proofs.rounds.next_rows.Goals as goal

pub loop-at-preserved : goal.loop-at-preserved
loop-at-preserved c = record {
  whole = grind (arith, common_steps, c.in_ok-push.ensures.items, c.loop-at.invariant.whole);
  each = λ d l. subst (λ rows. is_asked c.args.fields.asked.now d ≡ true → (place : ℕ) →
      constant_in (slice_get (tables.values_in (slice_get rows d)) place)
      ≡ constant_due (program_in c.args.bodies) (round_seen c.args.fields.round.now d) (record { class = class_numbered d; at = place })
      (unwrap_or (slice_get (values_in (slice_get c.args.fields.values.now d)) place) unwritten))
      (sym c.in_ok-push.ensures.items)
      (push-each (λ n o. is_asked c.args.fields.asked.now n ≡ true → (place : ℕ) →
      constant_in (slice_get (tables.values_in o) place)
      ≡ constant_due (program_in c.args.bodies) (round_seen c.args.fields.round.now n) (record { class = class_numbered n; at = place })
      (unwrap_or (slice_get (values_in (slice_get c.args.fields.values.now n)) place) unwritten))
      c.loop-at.rows.items _ c.loop-at.at c.loop-at.invariant.whole c.loop-at.invariant.each c.in_ok-row_at.ensures d l);
}

pub returns : goal.returns
returns c =
    let n : c.loop-at.at ≡ c.args.count = omega arith in
    record {
      whole = c.loop-at.invariant.whole ∙ n;
      each = rows_are (λ m v. constant_due (program_in c.args.bodies) (round_seen c.args.fields.round.now m.class.0) m v) (is_asked c.args.fields.asked.now)
          c.loop-at.rows.items c.args.fields.values.now c.args.count
          (λ m. none_unwritten (program_in c.args.bodies) (round_seen c.args.fields.round.now m.class.0) m)
          (c.loop-at.invariant.whole ∙ n) c.requires.whole (λ d l. c.loop-at.invariant.each d (omega (arith, l, n)));
    }
