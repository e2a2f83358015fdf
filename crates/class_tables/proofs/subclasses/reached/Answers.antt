use Rattle.std.proofs.Common.{◌≡◌, ◌<◌, ◌+◌, ◌-◌, length, sym, ap, ◌∙◌, arith}
use Rattle.std.specs.Prelude.{Some, None, slice_get}
use Rattle.je_core.specs.View.{program_view}
use Rattle.class_lookup.specs.way.Walk.{reached_from}
use Rattle.class_lookup.proofs.Walking.{at_end, none_left, one_step}
use Rattle.number_maps.specs.Maps.{family}
use Rattle.class_tables.specs.way.Above.{next_beyond}
use Rattle.class_tables.proofs.subclasses.reached.Goals as goal

pub returns-in_default : goal.returns-in_default
returns-in_default c =
    let p = program_view c.args.program.now in
    let n = length p.classes in
    let at = c.loop-at.at in
    let xs = c.loop-at.classes.items in
    let next = next_beyond p (family c.args.maps.now) c.args.base in
    let here : slice_get xs at ≡ None = ap (λ ys. slice_get ys at) (sym c.deref.ensures.value) ∙ sym c.in_default.ensures in
    sym (at_end next n (n - at) at xs here) ∙ c.loop-at.invariant

pub loop-at-preserved : goal.loop-at-preserved
loop-at-preserved c =
    let p = program_view c.args.program.now in
    let n = length p.classes in
    let at = c.loop-at.at in
    let xs = c.loop-at.classes.items in
    let next = next_beyond p (family c.args.maps.now) c.args.base in
    let here : slice_get xs at ≡ Some c.in-Some.next = ap (λ ys. slice_get ys at) (sym c.deref.ensures.value) ∙ sym c.in-Some.ensures in
    let more : 0 < n - at = omega (arith, c.loop-at-test.true, c.class_count-count.ensures) in
    let less : n - (at + 1) ≡ n - at - 1 = omega arith in
    (λ i. reached_from next n (less i) (at + 1) (c.in_ok-reach_on.ensures i)) ∙ sym (one_step next n (n - at) at xs c.in-Some.next more here) ∙ c.loop-at.invariant

pub returns : goal.returns
returns c =
    let p = program_view c.args.program.now in
    let n = length p.classes in
    let at = c.loop-at.at in
    let xs = c.loop-at.classes.items in
    let next = next_beyond p (family c.args.maps.now) c.args.base in
    let none : n - at ≡ 0 = omega (arith, c.loop-at-test.false, c.class_count-count.ensures) in
    sym (ap (λ left. reached_from next n left at xs) none ∙ none_left next n at xs) ∙ c.loop-at.invariant
