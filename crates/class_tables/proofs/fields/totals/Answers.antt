use Rattle.std.proofs.Common.{◌≡◌, ℕ, ◌+◌, List, length, set, take, Some, sym, ap, ◌∙◌, subst, arith}
use Rattle.std.specs.Prelude.{slice_get, slice_index_or}
use Rattle.std.proofs.lemmas.List.{length-replicate}
use Rattle.std.proofs.lemmas.Option.{slice_get-get_or, get_or_from_slice_get}
use Rattle.je_core.specs.declared.types.ClassId.{ClassId}
use Rattle.je_core.specs.View.{program_view}
use Rattle.class_tables.specs.way.Slots.{AreTotals, IsKnownAbove}
use Rattle.class_tables.proofs.Totals.{ready-known, noted}
use Rattle.class_tables.proofs.fields.totals.Goals as goal

pub loop-class-init : goal.loop-class-init
loop-class-init c = record {
  count = ap length (c.in_ok-totals.ensures.items_if_clones_equal (λ y h. h)) ∙ length-replicate c.class_count.result 0 ∙ c.class_count.ensures;
  each = λ k q. elim q [ ];
}

pub total-total-requires-clause-above : goal.total-total-requires-clause-above
total-total-requires-clause-above c =
    let p = program_view c.args.program.now in
    let order = c.args.order.now in
    let i = c.loop-class.class-index in
    let k : ClassId = slice_index_or order i (record { 0 = 0 }) in
    let there : slice_get order i ≡ Some k = slice_get-get_or order i (record { 0 = 0 }) (omega arith) in
    subst (λ (ts : List ℕ). IsKnownAbove p ts k) (sym c.deref.ensures.value) (ready-known p order i k c.loop-class.totals.items c.requires.order there c.loop-class.invariant)

pub loop-class-preserved : goal.loop-class-preserved
loop-class-preserved c =
    let p = program_view c.args.program.now in
    let order = c.args.order.now in
    let i = c.loop-class.class-index in
    let k : ClassId = slice_index_or order i (record { 0 = 0 }) in
    let there : slice_get order i ≡ Some k = slice_get-get_or order i (record { 0 = 0 }) (omega arith) in
    subst (AreTotals p (take (i + 1) order)) (sym (c.note.ensures ∙ ap (set c.loop-class.totals.items k.0) c.total-total.ensures))
    (noted p order i k c.loop-class.totals.items (omega arith) (get_or_from_slice_get order i k k there) c.loop-class.invariant)
