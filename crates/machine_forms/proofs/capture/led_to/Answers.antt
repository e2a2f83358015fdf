use Rattle.std.proofs.Common.{◌≡◌, ◌<◌, ◌+◌, length, drop, get_or, sym, ap, ◌∙◌, arith}
use Rattle.je_core.specs.View.{program_view}
use Rattle.je_java.specs.Steps.{read_field}
use Rattle.je_java.specs.Meaning.{led_to}
use Rattle.machine_parts.specs.Ways.{own_of, state_of}
use Rattle.machine_forms.proofs.Handing.{value_then, null_then, outside_then, wrong_then, path_from}
use Rattle.machine_forms.proofs.capture.led_to.Goals as goal

pub returns-in-Null : goal.returns-in-Null
returns-in-Null c = λ env go exits units begun outside.
    let p = program_view c.args.program.now in
    let s = state_of units begun c.args.heap.now outside (own_of env) in
    let x = get_or c.args.path.now c.loop-step.step-index (record { 0 = 0 }, 0) in
    let below : c.loop-step.step-index < length c.args.path.now = omega (arith, c.loop-step-test.true) in
    null_then p (read_field p x.0 x.1 c.loop-step.reached) s s (led_to p (drop (c.loop-step.step-index + 1) c.args.path.now))
    (λ way out. c.in-Null.ensures env way out units begun outside) go exits
    ∙ ap (λ xs. led_to p xs c.loop-step.reached go exits s) (sym (path_from c.args.path.now c.loop-step.step-index (record { 0 = 0 }, 0) below))
    ∙ c.loop-step.invariant env go exits units begun outside

pub returns-in-Outside : goal.returns-in-Outside
returns-in-Outside c = λ env go exits units begun outside.
    let p = program_view c.args.program.now in
    let s = state_of units begun c.args.heap.now outside (own_of env) in
    let x = get_or c.args.path.now c.loop-step.step-index (record { 0 = 0 }, 0) in
    let below : c.loop-step.step-index < length c.args.path.now = omega (arith, c.loop-step-test.true) in
    outside_then p (read_field p x.0 x.1 c.loop-step.reached) s s (led_to p (drop (c.loop-step.step-index + 1) c.args.path.now))
    (λ way out. c.in-Outside.ensures env way out units begun outside) go exits
    ∙ ap (λ xs. led_to p xs c.loop-step.reached go exits s) (sym (path_from c.args.path.now c.loop-step.step-index (record { 0 = 0 }, 0) below))
    ∙ c.loop-step.invariant env go exits units begun outside

pub returns-in-Wrong : goal.returns-in-Wrong
returns-in-Wrong c = λ env go exits units begun outside.
    let p = program_view c.args.program.now in
    let s = state_of units begun c.args.heap.now outside (own_of env) in
    let x = get_or c.args.path.now c.loop-step.step-index (record { 0 = 0 }, 0) in
    let below : c.loop-step.step-index < length c.args.path.now = omega (arith, c.loop-step-test.true) in
    wrong_then p (read_field p x.0 x.1 c.loop-step.reached) s s (led_to p (drop (c.loop-step.step-index + 1) c.args.path.now))
    (λ way out. c.in-Wrong.ensures env way out units begun outside) go exits
    ∙ ap (λ xs. led_to p xs c.loop-step.reached go exits s) (sym (path_from c.args.path.now c.loop-step.step-index (record { 0 = 0 }, 0) below))
    ∙ c.loop-step.invariant env go exits units begun outside

pub loop-step-preserved : goal.loop-step-preserved
loop-step-preserved c = λ env go exits units begun outside.
    let p = program_view c.args.program.now in
    let s = state_of units begun c.args.heap.now outside (own_of env) in
    let x = get_or c.args.path.now c.loop-step.step-index (record { 0 = 0 }, 0) in
    let below : c.loop-step.step-index < length c.args.path.now = omega (arith, c.loop-step-test.true) in
    value_then p (read_field p x.0 x.1 c.loop-step.reached) s s c.in-Value.next (led_to p (drop (c.loop-step.step-index + 1) c.args.path.now))
    (λ way out. c.in-Value.ensures env way out units begun outside) go exits
    ∙ ap (λ xs. led_to p xs c.loop-step.reached go exits s) (sym (path_from c.args.path.now c.loop-step.step-index (record { 0 = 0 }, 0) below))
    ∙ c.loop-step.invariant env go exits units begun outside
