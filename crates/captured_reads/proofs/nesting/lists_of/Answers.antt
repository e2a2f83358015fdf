use Rattle.std.proofs.Common.{◌≡◌, ◌∙◌, ◌≤◌, ◌<◌, get_or, length, map, ap, arith}
use Rattle.std.proofs.lemmas.List.{length-map}
use Rattle.je_core.specs.View.{class_view, program_view}
use Rattle.captured_reads.proofs.Filling.{all_classes, next_class, one_class_further}
use Rattle.captured_reads.proofs.nesting.lists_of.Goals as goal

pub loop-number-preserved : goal.loop-number-preserved
loop-number-preserved c =
    let classes = c.args.program.now.classes.items in
    let n = c.loop-number.number in
    let class = c.class-item.result in
    let fits : n < length classes = omega (arith, c.loop-number-test.true, c.deref-class-items.ensures.len) in
    let here : class ≡ get_or classes n class = c.class-item.is ∙ ap (λ xs. get_or xs n class) c.deref-class-items.ensures.value in (
      c.in_ok-add_inside.ensures.count ∙ c.loop-number.invariant.0,
      one_class_further (map class_view classes) n (class_view class) c.loop-number.lists.items c.add_inside.new.lists.items
          (next_class classes n class fits here) c.in_ok-add_inside.ensures.count c.in_ok-add_inside.ensures.more c.loop-number.invariant.1,
    )

pub returns : goal.returns
unfolding program_view
returns c =
    let classes = c.args.program.now.classes.items in
    let n = c.loop-number.number in
    let count : length (map class_view classes) ≡ length classes = length-map classes class_view in
    let past : length classes ≤ n = omega (arith, c.loop-number-test.false, c.deref-class-items.ensures.len) in
    let lists = c.loop-number.invariant.0 in
    all_classes (program_view c.args.program.now) n c.loop-number.lists.items (omega (arith, past, count)) (omega (arith, count, lists)) c.loop-number.invariant.1
