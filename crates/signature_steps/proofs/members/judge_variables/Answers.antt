use Rattle.std.proofs.Common.{List, refl, arith}
use Rattle.std.proofs.lemmas.Result.{err_from_is_err_and}
use Rattle.je_ast.specs.declared.stmt.Var.{Var}
use Rattle.je_ast.specs.Types.{type_view}
use Rattle.je_ast.specs.View.{variable_views_of}
use Rattle.signature_typing.specs.Signatures.{variable, variables}
use Rattle.signature_steps.specs.View.{setting_of}
use Rattle.written_types.proofs.Walking.{walk_on, walk_fails}
use Rattle.signature_steps.proofs.members.judge_variables.Goals as goal

pub loop-var-preserved : goal.loop-var-preserved
loop-var-preserved c =
    walk_on (λ (u : Unit {0}) (vs : List Var). variables (setting_of c.args.setting) c.args.class.0 c.args.modifiers.now (type_view c.args.ty.now) (variable_views_of vs)) c.args.vars.now c.loop-var.var-index tt _ c.var-item.result (variable (setting_of c.args.setting) c.args.class.0 c.args.modifiers.now (type_view c.args.ty.now) c.var-item.result.name c.var-item.result.dims) tt (λ ys. refl) (omega arith) c.var-item.is c.loop-var.invariant tt c.in_ok-judge_variable.ensures.ok

pub returns-in_err-judge_variable-clause-err : goal.returns-in_err-judge_variable-clause-err
returns-in_err-judge_variable-clause-err c =
    let p = err_from_is_err_and c.from_residual.result c.from_residual.ensures.1 in
    rw (p.1, p.2) (walk_fails (λ (u : Unit {0}) (vs : List Var). variables (setting_of c.args.setting) c.args.class.0 c.args.modifiers.now (type_view c.args.ty.now) (variable_views_of vs)) c.args.vars.now c.loop-var.var-index tt _ c.var-item.result (variable (setting_of c.args.setting) c.args.class.0 c.args.modifiers.now (type_view c.args.ty.now) c.var-item.result.name c.var-item.result.dims) tt (λ ys. refl) (omega arith) c.var-item.is c.loop-var.invariant _ c.in_err-judge_variable.ensures.err)
