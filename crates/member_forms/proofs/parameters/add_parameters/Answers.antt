use Rattle.std.proofs.Common.{rules, arith, ◌≡◌, ◌∷◌}
use Rattle.std.proofs.lemmas.Result.{err_from_is_err_and}
use Rattle.body_scopes.specs.View.{scope_seen}
use Rattle.statement_forms.specs.Seen.{progress_seen}
use Rattle.member_forms.proofs.Beside.{parameter_fails, parameter_on}
use Rattle.member_forms.proofs.parameters.add_parameters.Goals as goal

pub loop-formal-preserved : goal.loop-formal-preserved
loop-formal-preserved c =
    let first : c.loop-formal.left.now ≡ c.in-Some.ty.now ∷ c.in-Some.rest.now = search rules in
    rw (c.in_ok-add_parameter.ensures.scope, c.in_ok-add_parameter.ensures.progress)
    (parameter_on c.args.walk c.args.formals.now c.loop-formal.formal-index (scope_seen c.loop-formal.scope)
    (progress_seen c.loop-formal.progress) c.loop-formal.left.now _ c.loop-formal.invariant c.formal-item.result
    c.in-Some.ty.now c.in-Some.rest.now first (omega arith) c.formal-item.is _ c.in_ok-add_parameter.ensures.ok)

pub returns-in_err-add_parameter-clause-err : goal.returns-in_err-add_parameter-clause-err
returns-in_err-add_parameter-clause-err c =
    let first : c.loop-formal.left.now ≡ c.in-Some.ty.now ∷ c.in-Some.rest.now = search rules in
    let p = err_from_is_err_and c.from_residual.result c.from_residual.ensures.1 in
    rw (p.1, p.2)
    (parameter_fails c.args.walk c.args.formals.now c.loop-formal.formal-index (scope_seen c.loop-formal.scope)
    (progress_seen c.loop-formal.progress) c.loop-formal.left.now _ c.loop-formal.invariant c.formal-item.result
    c.in-Some.ty.now c.in-Some.rest.now first (omega arith) c.formal-item.is _ c.in_err-add_parameter.ensures.err)
