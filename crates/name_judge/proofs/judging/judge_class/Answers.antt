use Rattle.std.proofs.Common.{subst}
use Rattle.std.proofs.lemmas.Result.{on_ok_weaker}
use Rattle.je_scopes.specs.Source.{Source}
use Rattle.je_scopes.specs.Faults.{of_class_name}
use Rattle.name_faults.specs.View.{Adds}
use Rattle.name_faults.proofs.Left.{adds_both}
use Rattle.name_judge.proofs.judging.judge_class.Goals as goal

pub returns : goal.returns
returns c =
    on_ok_weaker c.judge_methods.result
    (λ m. adds_both _ _ (adds_both _ _ (adds_both _ _ (adds_both _ _
    (subst (λ (p : Source). Adds c.args.faults.now c.judge_class_name.new.faults (of_class_name p c.args.class.0)) c.requires.taken c.judge_class_name.ensures)
    c.in_ok-judge_parameters.ensures) c.in_ok-judge_heads.ensures) c.in_ok-judge_fields.ensures) m)
    c.judge_methods.ensures
