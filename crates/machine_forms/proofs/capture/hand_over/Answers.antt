use Rattle.std.proofs.Common.{◌≡◌, ◌<◌, ◌+◌, length, map, drop, sym, ap, ◌∙◌, subst, arith}
use Rattle.je_core.specs.View.{capture_view, program_view}
use Rattle.je_java.specs.Meaning.{hand, hand_over}
use Rattle.machine_parts.specs.Ways.{own_of, state_of}
use Rattle.machine_parts.specs.way.Clauses.{fetched_ways}
use Rattle.machine_forms.proofs.Handing.{value_and, null_and, outside_and, wrong_and, captures_from}
use Rattle.machine_forms.proofs.capture.hand_over.Goals as goal

pub returns-in-Null : goal.returns-in-Null
returns-in-Null c = λ next go exits units begun outside.
    let p = program_view c.args.program.now in
    let s = state_of units begun c.hand.new.heap outside (own_of c.args.env.now) in
    let t = state_of units begun c.loop-capture.heap outside (own_of c.args.env.now) in
    let x = c.capture-item.result in
    let below : c.loop-capture.capture-index < length c.args.captures.now = omega (arith, c.loop-capture-test.true) in
    let rest = hand_over p (map capture_view (drop (c.loop-capture.capture-index + 1) c.args.captures.now)) c.args.object next in
    null_and p (hand p (capture_view x) c.args.object) s t rest next
    (λ way out. subst (λ f. fetched_ways p f way out s ≡ hand p (capture_view x) c.args.object way out t) c.in-Null.is (c.in_ok-hand.ensures way out units begun outside)) go exits
    ∙ ap (λ xs. hand_over p xs c.args.object next go exits t) (sym (captures_from c.args.captures.now c.loop-capture.capture-index x below c.capture-item.is))
    ∙ c.loop-capture.invariant next go exits units begun outside

pub returns-in-Outside : goal.returns-in-Outside
returns-in-Outside c = λ next go exits units begun outside.
    let p = program_view c.args.program.now in
    let s = state_of units begun c.hand.new.heap outside (own_of c.args.env.now) in
    let t = state_of units begun c.loop-capture.heap outside (own_of c.args.env.now) in
    let x = c.capture-item.result in
    let below : c.loop-capture.capture-index < length c.args.captures.now = omega (arith, c.loop-capture-test.true) in
    let rest = hand_over p (map capture_view (drop (c.loop-capture.capture-index + 1) c.args.captures.now)) c.args.object next in
    outside_and p (hand p (capture_view x) c.args.object) s t rest next
    (λ way out. subst (λ f. fetched_ways p f way out s ≡ hand p (capture_view x) c.args.object way out t) c.in-Outside.is (c.in_ok-hand.ensures way out units begun outside)) go exits
    ∙ ap (λ xs. hand_over p xs c.args.object next go exits t) (sym (captures_from c.args.captures.now c.loop-capture.capture-index x below c.capture-item.is))
    ∙ c.loop-capture.invariant next go exits units begun outside

pub returns-in-Wrong : goal.returns-in-Wrong
returns-in-Wrong c = λ next go exits units begun outside.
    let p = program_view c.args.program.now in
    let s = state_of units begun c.hand.new.heap outside (own_of c.args.env.now) in
    let t = state_of units begun c.loop-capture.heap outside (own_of c.args.env.now) in
    let x = c.capture-item.result in
    let below : c.loop-capture.capture-index < length c.args.captures.now = omega (arith, c.loop-capture-test.true) in
    let rest = hand_over p (map capture_view (drop (c.loop-capture.capture-index + 1) c.args.captures.now)) c.args.object next in
    wrong_and p (hand p (capture_view x) c.args.object) s t rest next
    (λ way out. subst (λ f. fetched_ways p f way out s ≡ hand p (capture_view x) c.args.object way out t) c.in-Wrong.is (c.in_ok-hand.ensures way out units begun outside)) go exits
    ∙ ap (λ xs. hand_over p xs c.args.object next go exits t) (sym (captures_from c.args.captures.now c.loop-capture.capture-index x below c.capture-item.is))
    ∙ c.loop-capture.invariant next go exits units begun outside

pub loop-capture-preserved : goal.loop-capture-preserved
loop-capture-preserved c = λ next go exits units begun outside.
    let p = program_view c.args.program.now in
    let s = state_of units begun c.hand.new.heap outside (own_of c.args.env.now) in
    let t = state_of units begun c.loop-capture.heap outside (own_of c.args.env.now) in
    let x = c.capture-item.result in
    let below : c.loop-capture.capture-index < length c.args.captures.now = omega (arith, c.loop-capture-test.true) in
    let rest = hand_over p (map capture_view (drop (c.loop-capture.capture-index + 1) c.args.captures.now)) c.args.object next in
    value_and p (hand p (capture_view x) c.args.object) s t c.in-Value.field-0 rest
    (λ way out. subst (λ f. fetched_ways p f way out s ≡ hand p (capture_view x) c.args.object way out t) c.in-Value.is (c.in_ok-hand.ensures way out units begun outside)) go exits
    ∙ ap (λ xs. hand_over p xs c.args.object next go exits t) (sym (captures_from c.args.captures.now c.loop-capture.capture-index x below c.capture-item.is))
    ∙ c.loop-capture.invariant next go exits units begun outside
