use Rattle.std.proofs.Common.{◌≡◌, suc, ◌+◌, Some, drop, sym, ap, ◌∙◌, arith}
use Rattle.je_core.specs.View.{program_view}
use Rattle.je_fitting.specs.way.Deciding.{leads_to}
use Rattle.fit_parts.proofs.Handed.{leads_past}
use Rattle.fit_parts.proofs.captures.leads_to.Goals as goal

pub loop-step-preserved : goal.loop-step-preserved
loop-step-preserved c =
    let p = program_view c.args.program.now in
    let i = c.loop-step.step-index in
    let next : i + 1 ≡ suc i = omega arith in
    ap (λ k. leads_to p (Some c.in-Some.next) (drop k c.args.path.now)) next
    ∙ sym (leads_past p c.loop-step.ty c.in-Some.next c.args.path.now i (record { 0 = 0 }, 0) c.loop-step-test.true (sym c.in_ok-next.ensures ∙ c.in-Some.is)) ∙ c.loop-step.invariant
