use Rattle.std.proofs.Common.{sym, ap, ◌∙◌, subst, List, map}
use Rattle.std.specs.Prelude.{Bool}
use Rattle.std.proofs.lemmas.Result.{err_from_is_err_and}
use Rattle.je_typing.specs.declared.fault.TypeRule.TheVariants.{StaticContext}
use Rattle.je_typing.specs.Answers.{IsFault}
use Rattle.je_typing.specs.Judged.{check, gives}
use Rattle.je_typing.proofs.Walks.{bind_faults, fault_later}
use Rattle.call_typing.specs.Calls.{simple_call, method_for, class_outwards}
use Rattle.typed_nodes.specs.declared.typed.TypedExpr.{TypedExpr}
use Rattle.typed_nodes.specs.Seen.{seen}
use Rattle.name_steps.specs.Places.{place_seen, program_seen}
use Rattle.header_typing.specs.Supers.{own_type}
use Rattle.source_subtypes.specs.View.{heads_of}
use Rattle.call_steps.proofs.Steps.{then_gives}
use Rattle.call_steps.proofs.simple.simple_call.Goals as goal

pub returns-clause-ok : goal.returns-clause-ok
unfolding simple_call
returns-clause-ok c =
    then_gives _ _ _ _ c.in_ok-steps.ensures.ok
    (then_gives _ _ _ _ (ap (λ (args : List TypedExpr). method_for (program_seen c.args.calls.program) (place_seen c.args.place) (own_type (heads_of c.args.calls.program.heads.now) (class_outwards (place_seen c.args.place) c.in_ok-steps.steps)) c.args.id (map seen args)) (sym c.deref.ensures.value) ∙ c.in_ok-method.ensures.ok)
    (then_gives _ _ _ _ (ap (check StaticContext c.args.id.span) (sym c.may_be_called-may_be_called.ensures) ∙ c.in_ok-check.ensures.ok)
    (ap gives (sym c.in_ok-call.ensures))))

pub returns-in_err-method-clause-err : goal.returns-in_err-method-clause-err
unfolding simple_call
returns-in_err-method-clause-err c =
    let p = err_from_is_err_and c.from_residual-in_err-method.result c.from_residual-in_err-method.ensures.1 in
    rw (p.1, p.2) (fault_later _ _ _ _ c.in_ok-steps.ensures.ok (bind_faults _ _ _ (subst (λ (args : List TypedExpr). IsFault (method_for (program_seen c.args.calls.program) (place_seen c.args.place) (own_type (heads_of c.args.calls.program.heads.now) (class_outwards (place_seen c.args.place) c.in_ok-steps.steps)) c.args.id (map seen args)) c.in_err-method.field-0.0) c.deref.ensures.value c.in_err-method.ensures.err)))

pub returns-in_err-check-clause-err : goal.returns-in_err-check-clause-err
unfolding simple_call
returns-in_err-check-clause-err c =
    let p = err_from_is_err_and c.from_residual-in_err-check.result c.from_residual-in_err-check.ensures.1 in
    rw (p.1, p.2) (fault_later _ _ _ _ c.in_ok-steps.ensures.ok
    (fault_later _ _ _ _ (ap (λ (args : List TypedExpr). method_for (program_seen c.args.calls.program) (place_seen c.args.place) (own_type (heads_of c.args.calls.program.heads.now) (class_outwards (place_seen c.args.place) c.in_ok-steps.steps)) c.args.id (map seen args)) (sym c.deref.ensures.value) ∙ c.in_ok-method.ensures.ok)
    (bind_faults _ _ _ (subst (λ (b : Bool). IsFault (check StaticContext c.args.id.span b) c.in_err-check.field-0.0) c.may_be_called-may_be_called.ensures c.in_err-check.ensures.err))))
