use Rattle.std.proofs.lemmas.Result.{on_ok_weaker}
use Rattle.type_faults.specs.Program.{source_in}
use Rattle.name_judge.proofs.MethodSteps.{method_judged}
use Rattle.name_judge.proofs.methods.judge_method.Goals as goal

pub returns : goal.returns
returns c = on_ok_weaker c.judge_throws.result
    (λ thrown m r s w is l. method_judged (source_in c.args.program.now) c.args.method.now.head.place.class.0 w s c.args.faults.now c.add_where.new.self c.judge_result.new.faults c.judge_formals.new.faults c.judge_throws.new.faults
    c.args.met.now c.add.new.self c.args.method.now m r c.in_ok-repeats.repeats is c.in_ok-repeats.ensures.repeats c.in_ok-repeats.ensures.met
    c.add_where.ensures c.in_ok-judge_result.ensures c.in_ok-judge_formals.ensures thrown l)
    c.judge_throws.ensures
