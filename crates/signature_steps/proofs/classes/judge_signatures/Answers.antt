use Rattle.std.proofs.Common.{arith, length}
use Rattle.std.proofs.lemmas.Result.{err_from_is_err_and}
use Rattle.signature_typing.specs.Signatures.{signatures}
use Rattle.signature_steps.specs.View.{setting_of}
use Rattle.signature_steps.proofs.ClassesMet.{class_on, class_fails}
use Rattle.signature_steps.proofs.classes.judge_signatures.Goals as goal

pub loop-at-preserved : goal.loop-at-preserved
loop-at-preserved c =
    class_on (setting_of c.args.setting) c.loop-at.at (length (setting_of c.args.setting).sites) _ (omega (arith, c.len-at-end.ensures.count)) c.loop-at.invariant tt c.in_ok-judge_class.ensures.ok

pub returns-in_err-judge_class-clause-err : goal.returns-in_err-judge_class-clause-err
unfolding signatures
returns-in_err-judge_class-clause-err c =
    let p = err_from_is_err_and c.from_residual.result c.from_residual.ensures.1 in
    rw (p.1, p.2) (class_fails (setting_of c.args.setting) c.loop-at.at (length (setting_of c.args.setting).sites) _ (omega (arith, c.len-at-end.ensures.count)) c.loop-at.invariant _ c.in_err-judge_class.ensures.err)
