use Rattle.std.proofs.Common.{map, sym, ap, subst, ◌∙◌}
use Rattle.std.proofs.lemmas.Result.{err_from_is_err_and}
use Rattle.je_ast.specs.Types.{type_view}
use Rattle.je_ast.specs.View.{views_of}
use Rattle.je_typing.specs.Answers.{IsFault}
use Rattle.je_typing.specs.Judged.{Judged}
use Rattle.je_typing.proofs.Walks.{bind_faults, bind_gives, fault_later}
use Rattle.typed_nodes.specs.Seen.{seen}
use Rattle.call_typing.specs.Overloads.{Candidate}
use Rattle.body_typing.specs.Expressions.{values}
use Rattle.body_typing.specs.FinalVariables.{Scope}
use Rattle.member_forms.specs.Seen.{known_of, program_of}
use Rattle.member_forms.specs.Walks.{chosen_by}
use Rattle.type_decl.proofs.unwritten.chosen_at.Goals as goal

pub returns-in_err-args-clause-err : goal.returns-in_err-args-clause-err
returns-in_err-args-clause-err c =
    let p = err_from_is_err_and c.from_residual-in_err-args.result c.from_residual-in_err-args.ensures.1 in
    rw (p.1, p.2)
    (bind_faults _ _ _
    (subst (λ (s : Scope). IsFault (values (program_of c.args.walk) (known_of c.args.walk) s (views_of c.args.exprs.now)) c.in_err-args.field-0.0) c.in_ok-scope.ensures c.in_err-args.ensures.err))

pub returns-in_err-chosen-clause-err : goal.returns-in_err-chosen-clause-err
returns-in_err-chosen-clause-err c =
    let p = err_from_is_err_and c.from_residual-in_err-chosen.result c.from_residual-in_err-chosen.ensures.1 in
    rw (p.1, p.2)
    (fault_later _ _ (map seen c.in_ok-args.args.items) _
    (ap (λ (s : Scope). values (program_of c.args.walk) (known_of c.args.walk) s (views_of c.args.exprs.now)) (sym c.in_ok-scope.ensures) ∙ c.in_ok-args.ensures.ok)
    (subst (λ (j : Judged Candidate). IsFault j c.in_err-chosen.field-0.0)
    (λ i. chosen_by c.args.walk (c.in_ok-scope.ensures i) c.args.word (type_view c.args.ty.now) (map seen (c.deref.ensures.value i))) c.in_err-chosen.ensures.err))

pub returns-clause-ok : goal.returns-clause-ok
returns-clause-ok c =
    bind_gives _ _ (map seen c.in_ok-args.args.items)
    (ap (λ (s : Scope). values (program_of c.args.walk) (known_of c.args.walk) s (views_of c.args.exprs.now)) (sym c.in_ok-scope.ensures) ∙ c.in_ok-args.ensures.ok)
    ∙ (λ i. chosen_by c.args.walk (sym c.in_ok-scope.ensures i) c.args.word (type_view c.args.ty.now) (map seen (sym c.deref.ensures.value i)))
    ∙ c.in_ok-chosen.ensures.ok
