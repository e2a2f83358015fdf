use Rattle.std.proofs.Common.{◌≡◌, ◌<◌, ◌-◌, true, false, sym, ap, ◌∙◌, arith}
use Rattle.je_core.specs.View.{program_view}
use Rattle.je_java.specs.Meaning.{start_first}
use Rattle.je_java.specs.Steps.{is_started, with_outside}
use Rattle.je_java.specs.Subclasses.{upwards_within}
use Rattle.machine_parts.specs.Starts.{initialize_all}
use Rattle.machine_starts.proofs.Marking.{not_above, over_at_once, marked}
use Rattle.machine_starts.proofs.starting.mark.Goals as goal

pub returns-in_default : goal.returns-in_default
returns-in_default c = λ m go exits s.
    let p = program_view c.args.program.now in
    sym (not_above p m exits (with_outside s c.loop-left.starts) c.loop-left.left c.loop-left.above (λ u. initialize_all p m c.loop-left.path go) c.in_default.not-Some)
    ∙ c.loop-left.invariant m go exits s

pub returns-then-is_started : goal.returns-then-is_started
returns-then-is_started c = λ m go exits s.
    let p = program_view c.args.program.now in
    let t = with_outside s c.loop-left.starts in
    let started : is_started c.loop-left.starts c.in-Some.at ≡ true = sym c.is_started.ensures ∙ c.if-is_started.true in
    sym (ap (λ above. start_first p m (upwards_within p c.loop-left.left above) (λ u. initialize_all p m c.loop-left.path go) exits t) c.in-Some.is
    ∙ over_at_once p m exits t c.loop-left.left c.in-Some.at (λ u. initialize_all p m c.loop-left.path go) started)
    ∙ c.loop-left.invariant m go exits s

pub loop-left-preserved : goal.loop-left-preserved
loop-left-preserved c = λ m go exits s.
    let p = program_view c.args.program.now in
    let t = with_outside s c.loop-left.starts in
    let some : 0 < c.loop-left.left = omega arith in
    let not_started : is_started c.loop-left.starts c.in-Some.at ≡ false = sym c.is_started.ensures ∙ c.if-is_started.false in
    (λ i. start_first p m (upwards_within p (c.loop-left.left - 1) (c.superclass-above.ensures i)) (λ u. initialize_all p m (c.in_ok-push.ensures.ok i) go) exits (with_outside s (c.put_started.ensures i)))
    ∙ marked p m exits t c.loop-left.left c.in-Some.at c.loop-left.path go some not_started
    ∙ ap (λ above. start_first p m (upwards_within p c.loop-left.left above) (λ u. initialize_all p m c.loop-left.path go) exits t) (sym c.in-Some.is)
    ∙ c.loop-left.invariant m go exits s
