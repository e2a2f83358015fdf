use Rattle.std.proofs.Common.{map, option_map, sym, ap, subst, ◌∙◌}
use Rattle.std.proofs.lemmas.Result.{err_from_is_err_and}
use Rattle.je_ast.specs.Types.{formal_view}
use Rattle.je_ast.specs.View.{statement_views_of}
use Rattle.je_fitting.specs.Statements.{no_targets}
use Rattle.je_typing.specs.Answers.{IsFault}
use Rattle.je_typing.specs.Judged.{Judged, gives}
use Rattle.je_typing.proofs.Walks.{bind_faults, bind_gives, fault_later}
use Rattle.name_types.specs.View.{shown}
use Rattle.typed_nodes.specs.Seen.{seen}
use Rattle.statement_steps.specs.Returns.{no_value}
use Rattle.body_typing.specs.Bodies.{Done}
use Rattle.body_typing.specs.Statements.{statements}
use Rattle.class_typing.specs.Captures.{listed}
use Rattle.body_scopes.specs.View.{scope_seen}
use Rattle.member_forms.specs.Statements.{done_seen, progress_seen}
use Rattle.member_forms.specs.Seen.{known_of, program_of}
use Rattle.member_forms.specs.Walks.{begun, parameters}
use Rattle.type_decl.proofs.constructors.declared_constructor.Goals as goal

pub returns-in_err-done-clause-err : goal.returns-in_err-done-clause-err
returns-in_err-done-clause-err c =
    let p = err_from_is_err_and c.from_residual-in_err-done.result c.from_residual-in_err-done.ensures.1 in
    rw (p.1, p.2)
    (fault_later _ _ (begun (scope_seen c.add_parameters.new.scope) (progress_seen c.add_parameters.new.progress)) _
    ((λ i. parameters c.args.walk (sym c.scope_in-scope.ensures i) (sym c.nothing_met-progress.ensures i) (map formal_view c.args.formals.now) (map shown (sym c.deref.ensures.value i)))
    ∙ c.in_ok-add_parameters.ensures.ok)
    (fault_later _ _ (listed (option_map seen c.in_ok-called.called)) _ c.in_ok-called.ensures.ok
    (bind_faults _ _ _
    (subst (λ (j : Judged Done). IsFault j c.in_err-done.field-0.0)
    (λ i. statements (program_of c.args.walk) (known_of c.args.walk) no_value no_targets (c.in_ok-called.ensures.stays i) (c.in_ok-called.ensures.met i) (statement_views_of (c.deref-2.ensures.value i)))
    c.in_err-done.ensures.err))))

pub returns-clause-ok : goal.returns-clause-ok
returns-clause-ok c =
    bind_gives _ _ (begun (scope_seen c.add_parameters.new.scope) (progress_seen c.add_parameters.new.progress))
    ((λ i. parameters c.args.walk (sym c.scope_in-scope.ensures i) (sym c.nothing_met-progress.ensures i) (map formal_view c.args.formals.now) (map shown (sym c.deref.ensures.value i)))
    ∙ c.in_ok-add_parameters.ensures.ok)
    ∙ bind_gives _ _ (listed (option_map seen c.in_ok-called.called)) c.in_ok-called.ensures.ok
    ∙ bind_gives _ _ (done_seen c.in_ok-done.done c.body_statements.new.scope c.body_statements.new.progress)
    ((λ i. statements (program_of c.args.walk) (known_of c.args.walk) no_value no_targets (sym c.in_ok-called.ensures.stays i) (sym c.in_ok-called.ensures.met i)
    (statement_views_of (sym c.deref-2.ensures.value i)))
    ∙ c.in_ok-done.ensures.ok)
    ∙ ap gives (sym (c.in_ok-members.ensures (scope_seen c.body_statements.new.scope)))
