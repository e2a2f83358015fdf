use Rattle.std.proofs.Common.{◌≡◌, ◌-◌, ◌+◌, ◌<◌, length, map, sym, ◌∙◌, arith}
use Rattle.name_types.specs.View.{shown}
use Rattle.source_types.specs.Supertypes.{most_steps}
use Rattle.source_types.specs.way.Reaching.{climbed}
use Rattle.source_subtypes.specs.View.{heads_of}
use Rattle.source_subtypes.proofs.Climbing.{climbed-step, done-past, length-mapped}
use Rattle.source_subtypes.proofs.above.reached.Goals as goal

pub returns-then-next-end : goal.returns-then-next-end
returns-then-next-end c =
    let hs = heads_of c.args.heads.now in
    sym (done-past hs (most_steps hs - c.loop.counter) (map shown c.loop.met.items) c.loop.next
    (omega (arith, length-mapped shown c.loop.met.items, c.len-end.ensures, c.if-next-end.true))) ∙ c.loop.invariant

pub loop-preserved : goal.loop-preserved
loop-preserved c =
    let hs = heads_of c.args.heads.now in
    let less : most_steps hs - (c.loop.counter + 1) ≡ most_steps hs - c.loop.counter - 1 = omega arith in
    let count : c.len-end.result ≡ length (map shown c.loop.met.items) = omega (arith, length-mapped shown c.loop.met.items, c.len-end.ensures) in
    let more : 0 < most_steps hs - c.loop.counter = omega (arith, c.loop-test.true, c.most_steps-end.ensures) in
    (λ i. climbed hs (less i) (c.in_ok-go_up.ensures i) (count i))
    ∙ sym (climbed-step hs (most_steps hs - c.loop.counter) (map shown c.loop.met.items) c.loop.next more) ∙ c.loop.invariant
