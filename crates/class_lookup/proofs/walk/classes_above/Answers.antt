use Rattle.std.proofs.Common.{◌≡◌, ◌<◌, ◌+◌, ◌-◌, List, length, sym, ap, ◌∙◌, subst, arith}
use Rattle.std.specs.Prelude.{Some, None, slice_get}
use Rattle.je_core.specs.declared.types.ClassId.{ClassId}
use Rattle.je_core.specs.View.{program_view}
use Rattle.je_classes.specs.Hierarchy.{supers_of}
use Rattle.class_lookup.specs.Above.{AreAbove}
use Rattle.class_lookup.specs.way.Walk.{reached_from}
use Rattle.class_lookup.proofs.Walking.{at_end, none_left, one_step}
use Rattle.class_lookup.proofs.Above.{are_above}
use Rattle.class_lookup.proofs.walk.classes_above.Goals as goal

pub returns-in_default : goal.returns-in_default
returns-in_default c =
    let p = program_view c.args.program.now in
    let n = length p.classes in
    let at = c.loop-at.at in
    let xs = c.loop-at.reached.items in
    let here : slice_get xs at ≡ None = ap (λ ys. slice_get ys at) (sym c.deref.ensures.value) ∙ sym c.in_default.ensures in
    subst (AreAbove p c.args.class) (sym c.loop-at.invariant ∙ at_end (supers_of p) n (n - at) at xs here) (are_above p c.args.class)

pub loop-at-preserved : goal.loop-at-preserved
loop-at-preserved c =
    let p = program_view c.args.program.now in
    let n = length p.classes in
    let at = c.loop-at.at in
    let xs = c.loop-at.reached.items in
    let here : slice_get xs at ≡ Some c.in-Some.next = ap (λ ys. slice_get ys at) (sym c.deref.ensures.value) ∙ sym c.in-Some.ensures in
    let more : 0 < n - at = omega (arith, c.loop-at-test.true, c.class_count-count.ensures) in
    let less : n - (at + 1) ≡ n - at - 1 = omega arith in
    (λ i. reached_from (supers_of p) n (less i) (at + 1) (c.in_ok-reach_supers.ensures i))
    ∙ sym (one_step (supers_of p) n (n - at) at xs c.in-Some.next more here) ∙ c.loop-at.invariant

pub returns : goal.returns
returns c =
    let p = program_view c.args.program.now in
    let n = length p.classes in
    let at = c.loop-at.at in
    let xs = c.loop-at.reached.items in
    let none : n - at ≡ 0 = omega (arith, c.loop-at-test.false, c.class_count-count.ensures) in
    subst (AreAbove p c.args.class) (sym c.loop-at.invariant ∙ ap (λ left. reached_from (supers_of p) n left at xs) none ∙ none_left (supers_of p) n at xs) (are_above p c.args.class)
