use Rattle.std.proofs.Common.{map, sym, ap, ◌∙◌, subst, List}
use Rattle.std.specs.Prelude.{Bool}
use Rattle.std.proofs.lemmas.Result.{err_from_is_err_and}
use Rattle.je_core.specs.declared.types.Base.TheVariants as base
use Rattle.je_core.specs.Core.{Core, a_core}
use Rattle.je_typing.specs.declared.fault.TypeRule.TheVariants.{NoEnclosing}
use Rattle.je_typing.specs.Answers.{IsFault}
use Rattle.je_typing.specs.Judged.{check, gives}
use Rattle.je_typing.specs.Typed.{typed_as}
use Rattle.je_typing.proofs.Walks.{bind_faults, fault_later}
use Rattle.overloads.specs.View.{candidate_seen}
use Rattle.typed_nodes.specs.Seen.{seen}
use Rattle.call_typing.specs.Calls.{exactly}
use Rattle.call_typing.specs.Creations.{superclass_constructor_call}
use Rattle.typed_nodes.specs.declared.typed.TypedExpr.{TypedExpr}
use Rattle.body_places.specs.View.{program_seen}
use Rattle.call_typing.specs.Constructors.{constructor_for}
use Rattle.name_typing.specs.Accesses.{superclass_of}
use Rattle.source_subtypes.specs.View.{heads_of}
use Rattle.call_steps.proofs.Steps.{then_gives}
use Rattle.creation_steps.proofs.heads.superclass_constructor_call.Goals as goal

pub returns-clause-ok : goal.returns-clause-ok
unfolding superclass_constructor_call
returns-clause-ok c =
    then_gives _ _ _ _ (ap (λ (args : List TypedExpr). constructor_for (program_seen c.args.calls.program) c.args.place.here.now.class.0 (superclass_of (heads_of c.args.calls.program.heads.now) c.args.place.here.now.class.0) c.args.word (map seen args)) (sym c.deref.ensures.value) ∙ c.in_ok-method.ensures.ok)
    (then_gives _ _ _ _ (ap (check NoEnclosing c.args.word) (sym c.in_ok-has_round.ensures) ∙ c.in_ok-check.ensures.ok)
    (ap (λ (o : Core). gives (typed_as base.Void (exactly (a_core o) (candidate_seen c.in_ok-method.method) (map seen c.args.arguments.items)) c.args.span c.args.word)) (sym c.this_node-object.ensures)
    ∙ ap gives (sym c.in_ok-call.ensures)))

pub returns-in_err-check-clause-err : goal.returns-in_err-check-clause-err
unfolding superclass_constructor_call
returns-in_err-check-clause-err c =
    let p = err_from_is_err_and c.from_residual-in_err-check.result c.from_residual-in_err-check.ensures.1 in
    rw (p.1, p.2) (fault_later _ _ _ _ (ap (λ (args : List TypedExpr). constructor_for (program_seen c.args.calls.program) c.args.place.here.now.class.0 (superclass_of (heads_of c.args.calls.program.heads.now) c.args.place.here.now.class.0) c.args.word (map seen args)) (sym c.deref.ensures.value) ∙ c.in_ok-method.ensures.ok)
    (bind_faults _ _ _ (subst (λ (b : Bool). IsFault (check NoEnclosing c.args.word b) c.in_err-check.field-0.0) c.in_ok-has_round.ensures c.in_err-check.ensures.err)))
