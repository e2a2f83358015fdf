use Rattle.std.proofs.Common.{sym, ap, ◌∙◌, subst, List, map}
use Rattle.std.specs.Prelude.{Bool, not}
use Rattle.std.proofs.lemmas.Result.{err_from_is_err_and}
use Rattle.je_typing.specs.declared.fault.TypeRule.TheVariants.{AbstractNew, NoEnclosing}
use Rattle.je_typing.specs.Answers.{IsFault}
use Rattle.je_typing.specs.Judged.{check, gives}
use Rattle.je_typing.proofs.Walks.{bind_faults, fault_later}
use Rattle.call_typing.specs.Creations.{anonymous_creation, made_of}
use Rattle.typed_nodes.specs.declared.typed.TypedExpr.{TypedExpr}
use Rattle.typed_nodes.specs.Seen.{seen}
use Rattle.body_places.specs.View.{program_seen}
use Rattle.call_typing.specs.Constructors.{constructor_for}
use Rattle.name_types.specs.View.{shown}
use Rattle.call_steps.proofs.Steps.{then_gives}
use Rattle.creation_steps.proofs.creating.anonymous_creation.Goals as goal

pub returns-clause-ok : goal.returns-clause-ok
unfolding anonymous_creation
returns-clause-ok c =
    then_gives _ _ _ _ (ap (λ (b : Bool). check AbstractNew c.args.spans.name (not b)) (sym c.is_variable.ensures) ∙ c.in_ok-check.ensures.ok)
    (then_gives _ _ _ _ (ap (λ (args : List TypedExpr). constructor_for (program_seen c.args.calls.program) c.args.place.here.now.class.0 (made_of (program_seen c.args.calls.program) (shown c.args.ty)) c.args.spans.name (map seen args)) (sym c.deref.ensures.value) ∙ c.in_ok-method.ensures.ok)
    (then_gives _ _ _ _ (ap (check NoEnclosing c.args.spans.name) (sym c.in_ok-has_round.ensures) ∙ c.in_ok-check-2.ensures.ok)
    (ap gives (sym c.in_ok-whole.ensures))))

pub returns-in_err-method-clause-err : goal.returns-in_err-method-clause-err
unfolding anonymous_creation
returns-in_err-method-clause-err c =
    let p = err_from_is_err_and c.from_residual-in_err-method.result c.from_residual-in_err-method.ensures.1 in
    rw (p.1, p.2) (fault_later _ _ _ _ (ap (λ (b : Bool). check AbstractNew c.args.spans.name (not b)) (sym c.is_variable.ensures) ∙ c.in_ok-check.ensures.ok)
    (bind_faults _ _ _ (subst (λ (args : List TypedExpr). IsFault (constructor_for (program_seen c.args.calls.program) c.args.place.here.now.class.0 (made_of (program_seen c.args.calls.program) (shown c.args.ty)) c.args.spans.name (map seen args)) c.in_err-method.field-0.0) c.deref.ensures.value c.in_err-method.ensures.err)))

pub returns-in_err-check-2-clause-err : goal.returns-in_err-check-2-clause-err
unfolding anonymous_creation
returns-in_err-check-2-clause-err c =
    let p = err_from_is_err_and c.from_residual-in_err-check-2.result c.from_residual-in_err-check-2.ensures.1 in
    rw (p.1, p.2) (fault_later _ _ _ _ (ap (λ (b : Bool). check AbstractNew c.args.spans.name (not b)) (sym c.is_variable.ensures) ∙ c.in_ok-check.ensures.ok)
    (fault_later _ _ _ _ (ap (λ (args : List TypedExpr). constructor_for (program_seen c.args.calls.program) c.args.place.here.now.class.0 (made_of (program_seen c.args.calls.program) (shown c.args.ty)) c.args.spans.name (map seen args)) (sym c.deref.ensures.value) ∙ c.in_ok-method.ensures.ok)
    (bind_faults _ _ _ (subst (λ (b : Bool). IsFault (check NoEnclosing c.args.spans.name b) c.in_err-check-2.field-0.0) c.in_ok-has_round.ensures c.in_err-check-2.ensures.err))))
