-- One length more, or the end at what is none.
use Rattle.std.proofs.Common.{◌+◌, List, ℕ, [], ◌∷◌, ◌++◌, drop, sym, ap, ◌∙◌, append_assoc}
use Rattle.je_java.specs.Raised.{negative_size}
use Rattle.je_java.specs.Steps.{ret, bind, wrong, throw, raise}
use Rattle.je_java.specs.Arrays.{counts_of}
use Rattle.machine_forms.proofs.Making.{counts_step}
use Rattle.machine_forms.proofs.array.counts.Goals as goal

pub returns-in-BelowZero : goal.returns-in-BelowZero
unfolding raise bind throw
returns-in-BelowZero c = λ p go exits s.
    let done = c.loop-at.counts.items in
    sym (counts_step p c.args.values.now c.loop-at.at c.in-Some.value (raise p negative_size) (λ ns. go (done ++ ns))
    exits s (sym c.in-Some.ensures) (c.in-BelowZero.ensures p))
    ∙ c.loop-at.invariant p go exits s

pub returns-in-Wrong : goal.returns-in-Wrong
unfolding wrong
returns-in-Wrong c = λ p go exits s.
    let done = c.loop-at.counts.items in
    sym (counts_step p c.args.values.now c.loop-at.at c.in-Some.value wrong (λ ns. go (done ++ ns))
    exits s (sym c.in-Some.ensures) (c.in-Wrong.ensures p))
    ∙ c.loop-at.invariant p go exits s

pub loop-at-preserved : goal.loop-at-preserved
unfolding ret
loop-at-preserved c = λ p go exits s.
    let done = c.loop-at.counts.items in
    let rest = drop (c.loop-at.at + 1) c.args.values.now in
    let n = c.in-Count.count in
    ap (λ (ms : List ℕ). counts_of p rest (λ ns. go (ms ++ ns)) exits s) c.in_ok-push-in-Count.ensures.items
    ∙ (λ i. counts_of p rest (λ ns. go (append_assoc done (n ∷ []) ns i)) exits s)
    ∙ sym (counts_step p c.args.values.now c.loop-at.at c.in-Some.value (ret n) (λ ns. go (done ++ ns))
    exits s (sym c.in-Some.ensures) (c.in-Count.ensures p))
    ∙ c.loop-at.invariant p go exits s
