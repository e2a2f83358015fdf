use Rattle.std.proofs.Common.{ap, arith}
use Rattle.std.proofs.lemmas.Result.{err_from_is_err_and}
use Rattle.je_core.specs.View.{view as node_seen}
use Rattle.typed_nodes.specs.Seen.{seen}
use Rattle.body_scopes.specs.View.{scope_seen}
use Rattle.statement_forms.specs.Seen.{progress_seen}
use Rattle.type_statements.proofs.StepLists.{steps_fail, steps_on}
use Rattle.type_statements.proofs.expressing.steps.Goals as goal

pub returns-in_err-step-clause-err : goal.returns-in_err-step-clause-err
returns-in_err-step-clause-err c =
    let p = err_from_is_err_and c.from_residual.result c.from_residual.ensures.1 in
    rw (p.1, p.2)
    (steps_fail c.args.walk (scope_seen c.args.scope.now) c.args.list.now _ c.loop-expr.expr-index c.loop-expr.nodes.items (progress_seen c.loop-expr.progress)
    c.expr-item.result _ (omega arith) c.expr-item.is c.loop-expr.invariant c.in_err-step.ensures.err)

pub loop-expr-preserved : goal.loop-expr-preserved
loop-expr-preserved c =
    steps_on c.args.walk (scope_seen c.args.scope.now) c.args.list.now _ c.loop-expr.expr-index c.loop-expr.nodes.items (progress_seen c.loop-expr.progress)
    c.expr-item.result (seen c.in_ok-step.step) c.push.new.self.items c.in_ok-new.field-0 (progress_seen c.expressed.new.progress)
    (omega arith) c.expr-item.is c.loop-expr.invariant c.in_ok-step.ensures.ok (ap node_seen c.in_ok-new.ensures.ok) c.in_ok-push.ensures.items
    c.in_ok-step.ensures.met
