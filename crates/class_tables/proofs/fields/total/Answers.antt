use Rattle.std.proofs.Common.{◌≡◌, ◌+◌, ◌<◌, length, map, Some, sym, ap, ◌∙◌, arith}
use Rattle.std.specs.List.{count_by}
use Rattle.je_core.specs.View.{class_view, field_view, program_view}
use Rattle.je_classes.specs.Hierarchy.{class_at}
use Rattle.je_classes.specs.Slots.{is_instance, slot_fields}
use Rattle.class_tables.specs.way.Slots.{total_of}
use Rattle.class_tables.proofs.Totals.{total-past, total-is, slots-few, known-above}
use Rattle.class_tables.proofs.fields.total.Goals as goal

pub returns-in_default : goal.returns-in_default
returns-in_default c = sym (total-past (program_view c.args.program.now) c.args.class (sym c.in_default.ensures))

pub returns : goal.returns
returns c =
    let p = program_view c.args.program.now in
    let k = class_view c.in-Some.class.now in
    let there : class_at p c.args.class ≡ Some k = sym c.in-Some.ensures in
    let x : c.known_above.result ≡ length (slot_fields p k.superclass) = c.known_above.ensures ∙ known-above p c.args.totals.now c.args.class k there c.requires.above in
    let y : c.instance_count.result ≡ count_by is_instance k.fields = c.instance_count.ensures ∙ ap (λ fs. count_by is_instance (map field_view fs)) c.deref.ensures.value in
    (λ i. x i + y i) ∙ sym (total-is p c.requires.acyclic c.args.class k there)

pub overflow_add-result : goal.overflow_add-result
overflow_add-result c =
    let p = program_view c.args.program.now in
    let k = class_view c.in-Some.class.now in
    let there : class_at p c.args.class ≡ Some k = sym c.in-Some.ensures in
    let x : c.known_above.result ≡ length (slot_fields p k.superclass) = c.known_above.ensures ∙ known-above p c.args.totals.now c.args.class k there c.requires.above in
    let y : c.instance_count.result ≡ count_by is_instance k.fields = c.instance_count.ensures ∙ ap (λ fs. count_by is_instance (map field_view fs)) c.deref.ensures.value in
    let z : total_of p c.args.class ≡ length (slot_fields p k.superclass) + count_by is_instance k.fields = total-is p c.requires.acyclic c.args.class k there in
    let w : total_of p c.args.class < 4611686018427387904 = slots-few p c.requires.few (Some c.args.class) in
    omega (arith, x, y, z, w)
