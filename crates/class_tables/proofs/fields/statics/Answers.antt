use Rattle.std.proofs.Common.{◌≡◌, ◌+◌, ◌<◌, ◌++◌, [], ◌∷◌, length, ap, ◌∙◌, arith}
use Rattle.std.specs.Prelude.{slice_get}
use Rattle.std.specs.List.{count_by}
use Rattle.je_core.specs.View.{program_view}
use Rattle.je_classes.specs.Statics.{is_static, statics_before}
use Rattle.class_tables.specs.way.Slots.{fields_at}
use Rattle.class_tables.proofs.Orders.{length-push}
use Rattle.class_tables.proofs.StaticPlaces.{before-fits, next-is, each-more}
use Rattle.class_tables.proofs.fields.statics.Goals as goal

pub overflow_add-count : goal.overflow_add-count
overflow_add-count c =
    let p = program_view c.args.program.now in
    let n = c.loop-at.at in
    let l : n < length p.classes = omega (arith, c.loop-at-test.true, c.class_count-at-end.ensures) in
    let x : c.static_count-count.result ≡ count_by is_static (fields_at (slice_get p.classes n)) = c.static_count-count.ensures ∙ ap (count_by is_static) c.fields_in.ensures in
    let y : c.loop-at.count ≡ statics_before p n = c.loop-at.invariant.1 in
    let z : statics_before p n + c.static_count-count.result ≡ statics_before p (n + 1) = next-is p n c.static_count-count.result l x in
    let w : statics_before p (n + 1) < 4611686018427387904 = before-fits p c.requires (n + 1) (omega (arith, l)) in
    omega (arith, y, z, w)

pub loop-at-preserved : goal.loop-at-preserved
loop-at-preserved c =
    let p = program_view c.args.program.now in
    let n = c.loop-at.at in
    let inv = c.loop-at.invariant in
    let l : n < length p.classes = omega (arith, c.loop-at-test.true, c.class_count-at-end.ensures) in
    let x : c.static_count-count.result ≡ count_by is_static (fields_at (slice_get p.classes n)) = c.static_count-count.ensures ∙ ap (count_by is_static) c.fields_in.ensures in
    let items : c.push.new.self.items ≡ c.loop-at.places.items ++ c.loop-at.count ∷ [] = c.in_ok-push.ensures.items in (
      ap length items ∙ length-push c.loop-at.places.items c.loop-at.count ∙ ap (λ k. k + 1) inv.0,
      ap (λ k. k + c.static_count-count.result) inv.1 ∙ next-is p n c.static_count-count.result l x,
      λ i q. ap (λ xs. slice_get xs i) (items ∙ ap (λ k. c.loop-at.places.items ++ k ∷ []) inv.1) ∙ each-more p c.loop-at.places.items n inv.0 inv.2 i q,
    )
