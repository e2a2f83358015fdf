use Rattle.std.proofs.lemmas.Result.{err_from_is_err_and}
use Rattle.body_walks.specs.Known.{known_seen}
use Rattle.type_expr.proofs.Assigning.{asked_faults, both_give}
use Rattle.type_expr.proofs.assignments.assigned.Goals as goal

pub returns-in_err-may_be_assigned-clause-err : goal.returns-in_err-may_be_assigned-clause-err
unfolding known_seen
returns-in_err-may_be_assigned-clause-err c =
    let p = err_from_is_err_and c.from_residual-in_err-may_be_assigned.result c.from_residual-in_err-may_be_assigned.ensures.1 in
    rw (p.1, p.2) (asked_faults _ _ _ _ c.in_ok-done.ensures.ok c.in_err-may_be_assigned.ensures.err)

pub returns-clause-ok : goal.returns-clause-ok
unfolding known_seen
returns-clause-ok c = both_give _ _ _ _ c.in_ok-done.ensures.ok c.in_ok-may_be_assigned.ensures.ok
