use Rattle.std.proofs.Common.{◌≡◌, ◌+◌, ◌++◌, [], ◌∷◌, length, take, map, Some, refl, sym, ap, ◌∙◌, arith}
use Rattle.std.specs.Prelude.{slice_get, option_map, if◌then◌else◌}
use Rattle.std.specs.List.{count_by}
use Rattle.std.proofs.lemmas.Option.{slice_get-map, slice_get_read}
use Rattle.je_core.specs.View.{field_view}
use Rattle.je_classes.specs.Slots.{is_instance}
use Rattle.class_tables.proofs.Orders.{length-push}
use Rattle.class_tables.proofs.Totals.{count-next, counted-more}
use Rattle.class_tables.proofs.fields.counts.Goals as goal
use Rattle.class_tables.proofs.fields.counts.Goals.{then-not-field, else-not-field}

pub loop-field-preserved : goal.loop-field-preserved
loop-field-preserved c =
    let fs = map field_view c.args.fields.now in
    let i = c.loop-field.field-index in
    let f = field_view c.field-item.result in
    let inv = c.loop-field.invariant in
    let items : c.push.new.self.items ≡ c.loop-field.counts.items ++ c.loop-field.count ∷ [] = c.in_ok-push.ensures.items in
    let there : slice_get fs i ≡ Some f = slice_get-map field_view c.args.fields.now i ∙ ap (option_map field_view) (slice_get_read c.args.fields.now (length c.args.fields.now) i c.field-item.result refl (omega arith) c.field-item.is) in
    let step = count-next fs i f there in (
      ap length items ∙ length-push c.loop-field.counts.items c.loop-field.count ∙ ap (λ n. n + 1) inv.0,
      elim c.if-not-field.branch [
        | then-not-field w ↦ w.count-is ∙ ap (λ n. n + 1) inv.1 ∙ sym (step ∙ ap (λ b. count_by is_instance (take i fs) + (if b then 0 else 1)) w.if-not-field.true)
        | else-not-field w ↦ (let s : count_by is_instance (take (i + 1) fs) ≡ count_by is_instance (take i fs) + 0 = step ∙ ap (λ b. count_by is_instance (take i fs) + (if b then 0 else 1)) w.if-not-field.false in
            let t : c.if-not-field.count ≡ count_by is_instance (take i fs) = w.count-is ∙ inv.1 in omega (arith, s, t))
      ],
      λ at l. ap (λ xs. slice_get xs at) (items ∙ ap (λ n. c.loop-field.counts.items ++ n ∷ []) inv.1) ∙ counted-more fs c.loop-field.counts.items i inv.0 inv.2 at l,
    )
