use Rattle.std.proofs.Common.{map, arith}
use Rattle.std.proofs.lemmas.Result.{err_from_is_err_and}
use Rattle.name_types.specs.View.{shown}
use Rattle.signature_steps.specs.View.{setting_of}
use Rattle.signature_steps.proofs.Interfaces.{interfaces_on, interfaces_fail}
use Rattle.signature_steps.proofs.headers.judge_interfaces.Goals as goal

pub loop-at-preserved : goal.loop-at-preserved
loop-at-preserved c =
    interfaces_on (setting_of c.args.setting) c.args.class.0 c.args.interfaces.now c.loop-at.at (map shown c.loop-at.earlier.items) _ c.index-interfaces-at.result (omega arith) c.index-interfaces-at.is c.loop-at.invariant
    (map shown c.judge_interface.new.earlier.items) tt c.in_ok-judge_interface.ensures.earlier c.in_ok-judge_interface.ensures.ok

pub returns-in_err-judge_interface-clause-err : goal.returns-in_err-judge_interface-clause-err
returns-in_err-judge_interface-clause-err c =
    let p = err_from_is_err_and c.from_residual.result c.from_residual.ensures.1 in
    rw (p.1, p.2) (interfaces_fail (setting_of c.args.setting) c.args.class.0 c.args.interfaces.now c.loop-at.at (map shown c.loop-at.earlier.items) _ c.index-interfaces-at.result (omega arith) c.index-interfaces-at.is c.loop-at.invariant
    _ c.in_err-judge_interface.ensures.err)
