use Rattle.std.proofs.Common.{◌≡◌, ℕ, ◌<◌, List, Option, length, map, arith, ap, ◌∙◌, subst}
use Rattle.je_ast.specs.Types.{TypeParameter, parameter_view}
use Rattle.je_scopes.specs.Faults.{comes_by, next_variable, of_parameters_from}
use Rattle.name_faults.specs.View.{Adds}
use Rattle.name_faults.proofs.Left.{left_all}
use Rattle.type_faults.specs.Program.{source_in}
use Rattle.name_judge.specs.way.Bounds.{leads, next_of}
use Rattle.name_judge.proofs.Leading.{leads_so}
use Rattle.name_judge.proofs.ParameterSteps.{names_more, parameter_next, parameters_end}
use Rattle.name_judge.proofs.parameters.judge_parameters.Goals as goal

pub loop-at-init : goal.loop-at-init
loop-at-init c = record { met = record { have = c.none-met.ensures }; left = left_all c.args.faults.now _ }

pub loop-at-preserved : goal.loop-at-preserved
loop-at-preserved c =
    let within : c.loop-at.at < length c.parameters-parameters.result.now = omega arith in
    let back : c.leads_back-back.result ≡ comes_by (source_in c.args.program.now) c.args.class.0 (length (map parameter_view c.parameters-parameters.result.now)) (next_variable (source_in c.args.program.now) c.args.class.0 c.loop-at.at) c.loop-at.at =
    c.leads_back-back.ensures ∙ ap (λ (ns : List (Option ℕ)). leads ns (length ns) (next_of ns c.loop-at.at) c.loop-at.at) c.as_slice.ensures.value
    ∙ leads_so (source_in c.args.program.now) c.args.class.0 (map parameter_view c.parameters-parameters.result.now) c.in_ok-next.next.items c.loop-at.at c.parameters-parameters.ensures c.in_ok-next.ensures in
    record {
      met = names_more (source_in c.args.program.now) c.args.class.0 c.parameters-parameters.result.now c.loop-at.at c.index-parameters-at.result within c.index-parameters-at.is c.loop-at.met c.judge_parameter.new.met c.loop-at.invariant.met c.in_ok-judge_parameter.ensures.met;
      left = parameter_next (source_in c.args.program.now) c.args.class.0 c.parameters-parameters.result.now c.loop-at.at c.index-parameters-at.result within c.index-parameters-at.is _ c.args.faults.now c.loop-at.faults c.judge_parameter.new.faults
          c.loop-at.met c.leads_back-back.result c.loop-at.invariant.met back c.loop-at.invariant.left c.in_ok-judge_parameter.ensures.faults;
    }

pub returns : goal.returns
returns c =
    subst (λ (qs : List TypeParameter). Adds c.args.faults.now c.loop-at.faults (of_parameters_from (source_in c.args.program.now) c.args.class.0 qs 0 qs)) c.parameters-parameters.ensures
    (parameters_end (source_in c.args.program.now) c.args.class.0 c.parameters-parameters.result.now c.loop-at.at _ c.args.faults.now c.loop-at.faults (omega arith) c.loop-at.invariant.left)
