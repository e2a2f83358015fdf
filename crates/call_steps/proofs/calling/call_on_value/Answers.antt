use Rattle.std.proofs.Common.{sym, ap, ◌∙◌, List, map, subst}
use Rattle.std.proofs.lemmas.Result.{err_from_is_err_and}
use Rattle.je_typing.specs.declared.fault.TypeRule.TheVariants.{BadOperand}
use Rattle.je_typing.specs.Judged.{check, gives}
use Rattle.je_typing.proofs.Walks.{bind_faults, fault_later}
use Rattle.call_typing.specs.Calls.{call_on_value, method_for}
use Rattle.typed_nodes.specs.declared.typed.TypedExpr.{TypedExpr}
use Rattle.typed_nodes.specs.Seen.{seen}
use Rattle.name_steps.specs.Places.{place_seen, program_seen}
use Rattle.je_typing.specs.Answers.{IsFault}
use Rattle.name_types.specs.View.{shown}
use Rattle.call_steps.proofs.Steps.{then_gives}
use Rattle.call_steps.proofs.calling.call_on_value.Goals as goal

pub returns-clause-ok : goal.returns-clause-ok
unfolding call_on_value
returns-clause-ok c =
    then_gives _ _ _ _ (ap (check BadOperand c.args.id.span) (sym c.has_members.ensures) ∙ c.in_ok-check.ensures.ok)
    (then_gives _ _ _ _ (ap (λ (args : List TypedExpr). method_for (program_seen c.args.calls.program) (place_seen c.args.place) (shown c.args.on.ty) c.args.id (map seen args)) (sym c.deref.ensures.value) ∙ c.in_ok-method.ensures.ok) (ap gives (sym c.in_ok-call.ensures)))

pub returns-in_err-method-clause-err : goal.returns-in_err-method-clause-err
unfolding call_on_value
returns-in_err-method-clause-err c =
    let p = err_from_is_err_and c.from_residual-in_err-method.result c.from_residual-in_err-method.ensures.1 in
    rw (p.1, p.2) (fault_later _ _ _ _ (ap (check BadOperand c.args.id.span) (sym c.has_members.ensures) ∙ c.in_ok-check.ensures.ok)
    (bind_faults _ _ _ (subst (λ (args : List TypedExpr). IsFault (method_for (program_seen c.args.calls.program) (place_seen c.args.place) (shown c.args.on.ty) c.args.id (map seen args)) c.in_err-method.field-0.0) c.deref.ensures.value c.in_err-method.ensures.err)))
