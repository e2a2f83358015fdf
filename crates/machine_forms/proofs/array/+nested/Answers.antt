-- One element more is made by the arrays of the lengths behind it.
use Rattle.std.proofs.Common.{◌≡◌, ◌+◌, ◌-◌, ◌∷◌, [], ◌++◌, List, suc, drop, get_or, sym, ap, ◌∙◌, arith}
use Rattle.je_core.specs.declared.value.Value.{Value}
use Rattle.je_java.specs.Steps.{Computation}
use Rattle.je_java.specs.Arrays.{nested, repeated, filled}
use Rattle.machine_parts.specs.Ways.{state_of}
use Rattle.machine_forms.proofs.Making.{repeated_step}
use Rattle.machine_forms.proofs.array.+nested.Goals as goal

pub loop-made-preserved : goal.loop-made-preserved
loop-made-preserved t c = λ go exits units begun outside own.
    let element = c.element_type-element.result in
    let n = get_or c.args.counts.now c.args.at 0 in
    let left = n - (c.loop-made._made + 1) in
    let m : Computation Value = nested element (drop (c.args.at + 1) c.args.counts.now) in
    let fill : List Value → Computation Value = filled element in
    let more : n - c.loop-made._made ≡ suc left = omega (arith, c.loop-made-test.true) in
    ap (λ vs. repeated left m fill vs go exits (state_of units begun c.nested.new.heap outside own)) c.in_ok-push.ensures.ok
    ∙ c.in_ok-value.ensures (λ v. repeated left m fill (c.loop-made.values ++ v ∷ []) go exits) exits units begun outside own
    ∙ sym (repeated_step left m fill c.loop-made.values go exits (state_of units begun c.loop-made.heap outside own))
    ∙ ap (λ j. repeated j m fill c.loop-made.values go exits (state_of units begun c.loop-made.heap outside own)) (sym more)
    ∙ c.loop-made.invariant go exits units begun outside own
