use Rattle.std.proofs.Common.{List, map, sym, ap, ◌∙◌}
use Rattle.std.specs.Prelude.{Option, slice_get, unwrap_or}
use Rattle.std.specs.declared.vec.Vec.{Vec}
use Rattle.std.specs.declared.alloc.Global.{Global}
use Rattle.source_types.specs.Erasure.{class_numbered}
use Rattle.program_tables.specs.Known.{round_seen}
use Rattle.body_places.specs.declared.tables.Constant.{Constant}
use Rattle.body_places.specs.Tables.{constant_in}
use Rattle.member_forms.specs.Bodies.{program_in}
use Rattle.class_typing.specs.ConstantFields.{unwritten}
use Rattle.field_values.specs.declared.values.FieldValue.{FieldValue}
use Rattle.field_values.specs.Values.{value_seen, values_in}
use Rattle.type_decl.specs.way.Rows.{constant_due}
use Rattle.type_decl.proofs.Due.{none_unwritten}
use Rattle.type_decl.proofs.rounds.row_at.Goals as goal

pub returns-in_ok-row-in-Some : goal.returns-in_ok-row-in-Some
returns-in_ok-row-in-Some c = λ _ place.
    c.in_ok-row-in-Some.ensures place
    ∙ (λ i. constant_due (program_in c.args.bodies.now) (c.bodies_round-round.ensures i) (record { class = record { 0 = c.in_ok-class_at-in-Some.ensures i }; at = place })
    (unwrap_or (slice_get (map value_seen (c.deref.ensures.value i)) place) unwritten))
    ∙ ap (λ (o : Option (Vec FieldValue Global)). constant_due (program_in c.args.bodies.now) (round_seen c.args.fields.round.now c.args.at) (record { class = class_numbered c.args.at; at = place })
    (unwrap_or (slice_get (values_in o) place) unwritten)) c.in-Some.ensures

pub returns-in-None : goal.returns-in-None
returns-in-None c = λ _ place.
    ap (λ (cs : List (Option Constant)). constant_in (slice_get cs place)) c.new-in-None.ensures.items
    ∙ sym (none_unwritten (program_in c.args.bodies.now) (round_seen c.args.fields.round.now c.args.at) (record { class = class_numbered c.args.at; at = place }))
    ∙ ap (λ (o : Option (Vec FieldValue Global)). constant_due (program_in c.args.bodies.now) (round_seen c.args.fields.round.now c.args.at) (record { class = class_numbered c.args.at; at = place })
    (unwrap_or (slice_get (values_in o) place) unwritten)) c.in-None.ensures
