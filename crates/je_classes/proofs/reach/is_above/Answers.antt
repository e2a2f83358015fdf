use Rattle.std.proofs.Common.{◌≡◌, ◌<◌, ◌+◌, ◌-◌, length, sym, ap, ◌∙◌, arith}
use Rattle.std.specs.Prelude.{Some, None, slice_get}
use Rattle.je_core.specs.View.{program_view}
use Rattle.je_classes.specs.way.Reaching.{found_from}
use Rattle.je_classes.proofs.Reaching.{found_over, found_end, found_super, found_further}
use Rattle.je_classes.proofs.reach.is_above.Goals as goal

pub returns-in_default : goal.returns-in_default
returns-in_default c =
    let p = program_view c.args.program.now in
    let d = c.args.class in
    let at = c.loop-at.at in
    let xs = c.loop-at.reached.items in
    let here : slice_get xs at ≡ None = ap (λ ys. slice_get ys at) (sym c.deref.ensures.value) ∙ sym c.in_default.ensures in
    sym (found_end p d (length p.classes - at) at xs here) ∙ c.loop-at.invariant

pub returns-then-names : goal.returns-then-names
returns-then-names c =
    let p = program_view c.args.program.now in
    let d = c.args.class in
    let at = c.loop-at.at in
    let xs = c.loop-at.reached.items in
    let here : slice_get xs at ≡ Some c.in-Some.next = ap (λ ys. slice_get ys at) (sym c.deref.ensures.value) ∙ sym c.in-Some.ensures in
    let more : 0 < length p.classes - at = omega (arith, c.loop-at-test.true, c.class_count-classes.ensures) in
    sym (found_super p d (length p.classes - at) at xs c.in-Some.next more here (sym c.names.ensures ∙ c.if-names.true)) ∙ c.loop-at.invariant

pub loop-at-preserved : goal.loop-at-preserved
loop-at-preserved c =
    let p = program_view c.args.program.now in
    let d = c.args.class in
    let at = c.loop-at.at in
    let xs = c.loop-at.reached.items in
    let here : slice_get xs at ≡ Some c.in-Some.next = ap (λ ys. slice_get ys at) (sym c.deref.ensures.value) ∙ sym c.in-Some.ensures in
    let more : 0 < length p.classes - at = omega (arith, c.loop-at-test.true, c.class_count-classes.ensures) in
    let less : length p.classes - (at + 1) ≡ length p.classes - at - 1 = omega arith in
    (λ i. found_from p d (less i) (at + 1) (c.in_ok-reach_supers.ensures i))
    ∙ sym (found_further p d (length p.classes - at) at xs c.in-Some.next more here (sym c.names.ensures ∙ c.if-names.false)) ∙ c.loop-at.invariant

pub returns : goal.returns
returns c =
    let p = program_view c.args.program.now in
    let d = c.args.class in
    let at = c.loop-at.at in
    let xs = c.loop-at.reached.items in
    let none : length p.classes - at ≡ 0 = omega (arith, c.loop-at-test.false, c.class_count-classes.ensures) in
    sym (ap (λ left. found_from p d left at xs) none ∙ found_over p d at xs) ∙ c.loop-at.invariant
