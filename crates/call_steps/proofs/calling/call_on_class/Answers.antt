use Rattle.std.proofs.Common.{sym, ap, List, map, ◌∙◌}
use Rattle.std.proofs.lemmas.Result.{err_from_is_err_and}
use Rattle.je_typing.specs.Judged.{gives}
use Rattle.je_typing.proofs.Walks.{bind_faults, fault_later}
use Rattle.call_typing.specs.Calls.{call_on_class, method_for}
use Rattle.typed_nodes.specs.declared.typed.TypedExpr.{TypedExpr}
use Rattle.typed_nodes.specs.Seen.{seen}
use Rattle.name_steps.specs.Places.{place_seen, program_seen}
use Rattle.header_typing.specs.Supers.{own_type}
use Rattle.source_subtypes.specs.View.{heads_of}
use Rattle.call_steps.proofs.Steps.{then_gives}
use Rattle.call_steps.proofs.calling.call_on_class.Goals as goal

pub returns-clause-ok : goal.returns-clause-ok
unfolding call_on_class
returns-clause-ok c =
    then_gives _ _ _ _ (ap (λ (args : List TypedExpr). method_for (program_seen c.args.calls.program) (place_seen c.args.place) (own_type (heads_of c.args.calls.program.heads.now) c.args.class.0) c.args.id (map seen args)) (sym c.deref.ensures.value) ∙ c.in_ok-method.ensures.ok)
    (then_gives _ _ _ _ c.in_ok-check.ensures.ok (ap gives (sym c.in_ok-call.ensures)))

pub returns-in_err-check-clause-err : goal.returns-in_err-check-clause-err
unfolding call_on_class
returns-in_err-check-clause-err c =
    let p = err_from_is_err_and c.from_residual-in_err-check.result c.from_residual-in_err-check.ensures.1 in
    rw (p.1, p.2) (fault_later _ _ _ _ (ap (λ (args : List TypedExpr). method_for (program_seen c.args.calls.program) (place_seen c.args.place) (own_type (heads_of c.args.calls.program.heads.now) c.args.class.0) c.args.id (map seen args)) (sym c.deref.ensures.value) ∙ c.in_ok-method.ensures.ok) (bind_faults _ _ _ c.in_err-check.ensures.err))
