use Rattle.std.proofs.Common.{◌≡◌, ◌+◌, true, false, sym, ◌∙◌, ap, subst}
use Rattle.std.specs.List.{flat_map}
use Rattle.je_scopes.specs.Sites.{Written}
use Rattle.je_scopes.specs.Headers.{is_guest}
use Rattle.je_scopes.specs.Faults.{of_class}
use Rattle.name_faults.specs.declared.faults.Faults.{Faults}
use Rattle.name_faults.specs.View.{Adds}
use Rattle.type_faults.specs.Program.{source_in}
use Rattle.name_judge.proofs.Firsts.{guest_judged, guests_below, is_declared, other_passed}
use Rattle.name_judge.proofs.judging.judge_classes.Goals.{then-is_guest+in_ok-judge_class, else-is_guest}
use Rattle.name_judge.proofs.judging.judge_classes.Goals as goal

pub loop-at-preserved : goal.loop-at-preserved
loop-at-preserved c = elim c.if-is_guest.branch [
  | then-is_guest+in_ok-judge_class w ↦
      let declared : is_declared (source_in c.args.program.now) c.loop-at.at ≡ true = ap (λ (t : Written). is_guest t) (sym c.written.ensures) ∙ sym c.is_guest.ensures ∙ w.if-is_guest.true in
      subst (λ (f : Faults). Adds c.args.faults.now f (flat_map (of_class (source_in c.args.program.now)) (guests_below (source_in c.args.program.now) (c.loop-at.at + 1)))) (sym w.faults-is)
      (guest_judged (source_in c.args.program.now) c.loop-at.at declared c.loop-at.invariant w.in_ok-judge_class.ensures)
  | else-is_guest w ↦
      let other : is_declared (source_in c.args.program.now) c.loop-at.at ≡ false = ap (λ (t : Written). is_guest t) (sym c.written.ensures) ∙ sym c.is_guest.ensures ∙ w.if-is_guest.false in
      subst (λ (f : Faults). Adds c.args.faults.now f (flat_map (of_class (source_in c.args.program.now)) (guests_below (source_in c.args.program.now) (c.loop-at.at + 1)))) (sym w.faults-is)
      (other_passed (source_in c.args.program.now) c.loop-at.at other c.loop-at.invariant)
]
