use Rattle.std.proofs.Common.{ℕ, List, suc, ◌+◌, drop, refl, ap, ◌∙◌, arith}
use Rattle.std.proofs.lemmas.Result.{err_from_is_err_and}
use Rattle.je_ast.specs.declared.stmt.Var.{Var}
use Rattle.je_ast.specs.View.{variable_views_of, view_of_option}
use Rattle.class_typing.specs.Members.{MembersDone}
use Rattle.member_forms.specs.Seen.{members_seen}
use Rattle.type_decl.specs.way.Walks.{variable, variables}
use Rattle.type_decl.proofs.Following.{behind, behind_nothing, ends, fails, follows}
use Rattle.type_decl.proofs.fields.variables.Goals as goal

pub loop-var-init : goal.loop-var-init
loop-var-init c =
    ap (λ (d : MembersDone). behind d (variables c.args.walk c.args.first (variable_views_of c.args.vars.now))) c.nothing-done.ensures
    ∙ behind_nothing (variables c.args.walk c.args.first (variable_views_of c.args.vars.now))

pub loop-var-preserved : goal.loop-var-preserved
loop-var-preserved c =
    (λ i. behind (c.in_ok-follow.ensures i) (variables c.args.walk (c.in_ok-at.ensures i) (variable_views_of (drop (c.loop-var.var-index + 1) c.args.vars.now))))
    ∙ (follows (λ (at : ℕ) (vs : List Var). variables c.args.walk at (variable_views_of vs)) c.args.vars.now c.loop-var.var-index c.loop-var.at _ (members_seen c.loop-var.done)
    c.var-item.result (variable c.args.walk c.loop-var.at c.var-item.result.name (view_of_option c.var-item.result.init)) (suc c.loop-var.at) (λ ys. refl) (omega arith) c.var-item.is c.loop-var.invariant
    (members_seen c.in_ok-more.more) c.in_ok-more.ensures.ok)

pub returns-in_err-more-clause-err : goal.returns-in_err-more-clause-err
returns-in_err-more-clause-err c =
    let p = err_from_is_err_and c.from_residual.result c.from_residual.ensures.1 in
    rw (p.1, p.2)
    (fails (λ (at : ℕ) (vs : List Var). variables c.args.walk at (variable_views_of vs)) c.args.vars.now c.loop-var.var-index c.loop-var.at _ (members_seen c.loop-var.done)
    c.var-item.result (variable c.args.walk c.loop-var.at c.var-item.result.name (view_of_option c.var-item.result.init)) (suc c.loop-var.at) (λ ys. refl) (omega arith) c.var-item.is c.loop-var.invariant
    _ c.in_err-more.ensures.err)

pub returns-clause-ok : goal.returns-clause-ok
returns-clause-ok c =
    ends (λ (at : ℕ) (vs : List Var). variables c.args.walk at (variable_views_of vs)) c.args.vars.now c.loop-var.var-index c.loop-var.at _ (members_seen c.loop-var.done) refl (omega arith) c.loop-var.invariant
