use Rattle.std.proofs.Common.{◌≡◌, List, length, map, ap, sym, ◌∙◌, arith}
use Rattle.std.specs.Prelude.{Option, slice_get, unwrap_or}
use Rattle.std.proofs.lemmas.Grind.{common_steps}
use Rattle.name_lookup.proofs.Tables.{push-each}
use Rattle.body_places.specs.declared.tables.Constant.{Constant}
use Rattle.body_places.specs.Places.{frame_seen}
use Rattle.body_places.specs.Tables.{constant_in}
use Rattle.member_forms.specs.Bodies.{program_in}
use Rattle.class_typing.specs.ConstantFields.{unwritten}
use Rattle.field_values.specs.declared.values.FieldValue.{FieldValue}
use Rattle.field_values.specs.Values.{value_seen}
use Rattle.type_decl.specs.way.Rows.{constant_due}
use Rattle.type_decl.proofs.Due.{kept_constant, none_unwritten, row_is, value_there}
use Rattle.type_decl.proofs.judging.constants_by.Goals as goal

pub loop-at-preserved : goal.loop-at-preserved
loop-at-preserved c = record {
  whole = grind (arith, common_steps, c.in_ok-push.ensures.items, c.loop-at.invariant.whole);
  each = λ k l. ap (λ (cs : List (Option Constant)). constant_in (slice_get cs k)) c.in_ok-push.ensures.items
      ∙ push-each (λ n o. constant_in o
      ≡ constant_due (program_in c.args.bodies.now) (map frame_seen c.args.round.now) (record { class = c.args.class; at = n }) (unwrap_or (slice_get (map value_seen c.args.values.now) n) unwritten))
      c.loop-at.row.items _ c.loop-at.at c.loop-at.invariant.whole c.loop-at.invariant.each
      (kept_constant c.in_ok-constant_by.field-0 ∙ c.in_ok-constant_by.ensures
      ∙ ap (λ (v : FieldValue). constant_due (program_in c.args.bodies.now) (map frame_seen c.args.round.now) (record { class = c.args.class; at = c.loop-at.at }) (value_seen v)) c.index-values-at.is
      ∙ ap (constant_due (program_in c.args.bodies.now) (map frame_seen c.args.round.now) (record { class = c.args.class; at = c.loop-at.at }))
      (sym (value_there c.args.values.now c.loop-at.at c.index-values-at.result c.loop-at-test.true))) k l;
}

pub returns : goal.returns
returns c =
    let n : c.loop-at.at ≡ length c.args.values.now = omega arith in
    row_is (λ k v. constant_due (program_in c.args.bodies.now) (map frame_seen c.args.round.now) (record { class = c.args.class; at = k }) v)
    c.loop-at.row.items c.args.values.now
    (λ k. none_unwritten (program_in c.args.bodies.now) (map frame_seen c.args.round.now) (record { class = c.args.class; at = k }))
    (c.loop-at.invariant.whole ∙ n) (λ k l. c.loop-at.invariant.each k (omega (arith, l, n)))
