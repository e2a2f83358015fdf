use Rattle.std.proofs.Common.{◌≡◌, ◌≤◌, ◌<◌, ◌+◌, ◌-◌, ◌*◌, length, map, Some, sym, ap, ◌∙◌, arith}
use Rattle.std.specs.Prelude.{count_by}
use Rattle.std.proofs.lemmas.List.{length-map}
use Rattle.std.proofs.lemmas.List.Sums.{count_by-le-length}
use Rattle.je_core.specs.View.{class_view, field_view, program_view}
use Rattle.je_classes.specs.Hierarchy.{class_at}
use Rattle.je_classes.specs.Slots.{is_instance, fields_upwards}
use Rattle.object_parts.proofs.Upwards.{size_step}
use Rattle.object_parts.proofs.slots.slots_above.Goals as goal

pub loop-left-preserved : goal.loop-left-preserved
loop-left-preserved c =
    let p = program_view c.args.program.now in
    let n = c.loop-left.left in
    let at = c.in-Some.at in
    let k = class_view c.in-Some-class.class.now in
    let fields = map field_view c.deref.result.now in
    let inv = c.loop-left.invariant in
    let total = ap (λ o. c.loop-left.count + length (fields_upwards p n o)) (sym c.in-Some.is) ∙ inv.0 in
    let there : class_at p at ≡ Some k = sym c.in-Some-class.ensures in
    let step = size_step p n at k (omega (arith, c.loop-left-test.true)) there in
    let own : c.slots_for.result ≡ count_by is_instance k.fields = c.slots_for.ensures ∙ ap (λ fs. count_by is_instance (map field_view fs)) c.deref.ensures.value in
    let few : count_by is_instance fields ≤ length fields = count_by-le-length is_instance fields in
    let same : length fields ≡ length c.deref.result.now = length-map c.deref.result.now field_view in
    let bound : length c.deref.result.now * 48 < 9223372036854775808 = c.deref.type_inv.1 in (
      omega (arith, total, step, own),
      omega (arith, inv.1, c.loop-left-test.true, c.slots_for.ensures, few, same, bound),
    )
