use Rattle.std.proofs.Common.{ap, ◌∙◌}
use Rattle.je_core.specs.View.{program_view}
use Rattle.je_java.specs.Meaning.{led_to, handed_from}
use Rattle.machine_parts.specs.Ways.{own_of, state_of}
use Rattle.machine_forms.proofs.Handing.{value_then, wrong_then}
use Rattle.machine_forms.proofs.capture.handed.Goals as goal

pub returns-in-Value : goal.returns-in-Value
returns-in-Value c = λ go exits units begun outside.
    let p = program_view c.args.program.now in
    let s = state_of units begun c.args.heap.now outside (own_of c.args.env.now) in
    let v = c.in-Value.value in
    c.led_to.ensures c.args.env.now go exits units begun outside
    ∙ ap (λ path. led_to p path v go exits s) c.deref.ensures.value
    ∙ value_then p (handed_from c.args.capture.now.local) s s v (led_to p c.args.capture.now.path.items)
    (λ way out. c.in-Value.ensures c.args.program.now c.args.heap.now way out units begun outside) go exits

pub returns-in-Wrong : goal.returns-in-Wrong
returns-in-Wrong c = λ go exits units begun outside.
    let p = program_view c.args.program.now in
    let s = state_of units begun c.args.heap.now outside (own_of c.args.env.now) in
    wrong_then p (handed_from c.args.capture.now.local) s s (led_to p c.args.capture.now.path.items)
    (λ way out. c.in-Wrong.ensures c.args.program.now c.args.heap.now way out units begun outside) go exits
