use Rattle.std.proofs.Common.{arith}
use Rattle.std.proofs.lemmas.Result.{err_from_is_err_and}
use Rattle.signature_steps.specs.View.{setting_of}
use Rattle.signature_steps.proofs.Throws.{throws_on, throws_fail}
use Rattle.signature_steps.proofs.methods.judge_throws.Goals as goal

pub loop-ty-preserved : goal.loop-ty-preserved
loop-ty-preserved c =
    throws_on (setting_of c.args.setting).heads c.args.types.now c.loop-ty.ty-index c.loop-ty.left.now c.in-Some.rest.now c.in-Some.name.now _ c.ty-item.result c.in-Some.ensures.cases.0 (omega arith) c.ty-item.is c.loop-ty.invariant
    tt c.in_ok-thrown.ensures.ok

pub returns-in_err-thrown-clause-err : goal.returns-in_err-thrown-clause-err
returns-in_err-thrown-clause-err c =
    let p = err_from_is_err_and c.from_residual.result c.from_residual.ensures.1 in
    rw (p.1, p.2) (throws_fail (setting_of c.args.setting).heads c.args.types.now c.loop-ty.ty-index c.loop-ty.left.now c.in-Some.rest.now c.in-Some.name.now _ c.ty-item.result c.in-Some.ensures.cases.0 (omega arith) c.ty-item.is c.loop-ty.invariant
    _ c.in_err-thrown.ensures.err)
