use Rattle.std.proofs.Common.{arith}
use Rattle.member_faults.proofs.FieldSteps.{constant_next, constants_end}
use Rattle.member_faults.proofs.fields.judge_constants.Goals as goal

pub loop-constant-preserved : goal.loop-constant-preserved
loop-constant-preserved c = λ p k r s w h. constant_next p k w c.args.constants.now c.loop-constant.constant-index r s c.loop-constant.faults c.judge_name.new.faults c.loop-constant.met c.judge_name.new.met
    _ (omega arith) (c.loop-constant.invariant p k r s w h) c.in_ok-judge_name.ensures.met c.in_ok-judge_name.ensures.faults

pub returns : goal.returns
returns c = λ p k r s w h. constants_end p k w c.args.constants.now c.loop-constant.constant-index r s c.loop-constant.faults c.loop-constant.met (omega arith) (c.loop-constant.invariant p k r s w h)
