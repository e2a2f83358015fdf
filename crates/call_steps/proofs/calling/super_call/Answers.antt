use Rattle.std.proofs.Common.{map, sym, ap, ◌∙◌, subst, List}
use Rattle.std.specs.Prelude.{Bool}
use Rattle.std.proofs.lemmas.Result.{err_from_is_err_and}
use Rattle.je_core.specs.Core.{Core, a_core}
use Rattle.je_typing.specs.declared.fault.TypeRule.TheVariants.{StaticContext}
use Rattle.je_typing.specs.Answers.{IsFault}
use Rattle.je_typing.specs.Judged.{check, gives}
use Rattle.je_typing.proofs.Walks.{bind_faults, fault_later}
use Rattle.overloads.specs.View.{candidate_seen}
use Rattle.typed_nodes.specs.Seen.{seen}
use Rattle.name_steps.specs.Places.{place_seen, program_seen}
use Rattle.call_typing.specs.Calls.{exactly, super_call, typed_call, method_for}
use Rattle.typed_nodes.specs.declared.typed.TypedExpr.{TypedExpr}
use Rattle.name_typing.specs.Accesses.{superclass_of}
use Rattle.source_subtypes.specs.View.{heads_of}
use Rattle.call_steps.proofs.Steps.{then_gives}
use Rattle.call_steps.proofs.calling.super_call.Goals as goal

pub returns-clause-ok : goal.returns-clause-ok
unfolding super_call
returns-clause-ok c =
    let m = candidate_seen c.in_ok-method.method in
    then_gives _ _ _ _ (ap (λ (args : List TypedExpr). method_for (program_seen c.args.calls.program) (place_seen c.args.place) (superclass_of (heads_of c.args.calls.program.heads.now) c.args.place.here.now.class.0) c.args.id (map seen args)) (sym c.deref.ensures.value) ∙ c.in_ok-method.ensures.ok)
    (then_gives _ _ _ _ (ap (check StaticContext c.args.word) (sym c.is_instance.ensures) ∙ c.in_ok-check.ensures.ok)
    (then_gives _ _ _ _ c.in_ok-check-2.ensures.ok
    (ap (λ (o : Core). gives (typed_call (program_seen c.args.calls.program) (exactly (a_core o) m (map seen c.args.arguments.items)) m c.args.id.span c.args.span)) (sym c.this_node-object.ensures)
    ∙ ap gives (sym c.in_ok-call.ensures))))

pub returns-in_err-check-clause-err : goal.returns-in_err-check-clause-err
unfolding super_call
returns-in_err-check-clause-err c =
    let p = err_from_is_err_and c.from_residual-in_err-check.result c.from_residual-in_err-check.ensures.1 in
    rw (p.1, p.2) (fault_later _ _ _ _ (ap (λ (args : List TypedExpr). method_for (program_seen c.args.calls.program) (place_seen c.args.place) (superclass_of (heads_of c.args.calls.program.heads.now) c.args.place.here.now.class.0) c.args.id (map seen args)) (sym c.deref.ensures.value) ∙ c.in_ok-method.ensures.ok)
    (bind_faults _ _ _ (subst (λ (b : Bool). IsFault (check StaticContext c.args.word b) c.in_err-check.field-0.0) c.is_instance.ensures c.in_err-check.ensures.err)))

pub returns-in_err-check-2-clause-err : goal.returns-in_err-check-2-clause-err
unfolding super_call
returns-in_err-check-2-clause-err c =
    let p = err_from_is_err_and c.from_residual-in_err-check-2.result c.from_residual-in_err-check-2.ensures.1 in
    rw (p.1, p.2) (fault_later _ _ _ _ (ap (λ (args : List TypedExpr). method_for (program_seen c.args.calls.program) (place_seen c.args.place) (superclass_of (heads_of c.args.calls.program.heads.now) c.args.place.here.now.class.0) c.args.id (map seen args)) (sym c.deref.ensures.value) ∙ c.in_ok-method.ensures.ok)
    (fault_later _ _ _ _ (ap (check StaticContext c.args.word) (sym c.is_instance.ensures) ∙ c.in_ok-check.ensures.ok)
    (bind_faults _ _ _ c.in_err-check-2.ensures.err)))
