use Rattle.std.proofs.Common.{None, false, map, option_map, sym, ap, ◌∙◌}
use Rattle.je_ast.specs.Types.{formal_view}
use Rattle.je_ast.specs.View.{block_view_of_option}
use Rattle.je_core.specs.View.{stmt_view}
use Rattle.je_typing.specs.Judged.{gives}
use Rattle.je_typing.proofs.Walks.{bind_gives}
use Rattle.name_types.specs.View.{shown}
use Rattle.je_scopes.specs.Sites.{Context}
use Rattle.statement_steps.specs.Returns.{Returning}
use Rattle.body_scopes.specs.View.{scope_seen}
use Rattle.member_forms.specs.Statements.{progress_seen}
use Rattle.member_forms.specs.Walks.{begun, body_done, parameters, scope_in}
use Rattle.type_decl.specs.way.Walks.{body_if}
use Rattle.type_decl.proofs.methods.declared_method.Goals as goal

pub returns-clause-ok : goal.returns-clause-ok
returns-clause-ok c =
    bind_gives _ _ (begun (scope_seen c.add_parameters.new.scope) (progress_seen c.add_parameters.new.progress))
    ((λ i. parameters c.args.walk ((ap (λ (context : Context). scope_in c.args.walk context None false) (sym c.context_of.ensures) ∙ sym c.scope_in-scope.ensures) i) (sym c.nothing_met-progress.ensures i)
    (map formal_view c.args.formals.now) (map shown (sym c.deref.ensures.value i)))
    ∙ c.in_ok-add_parameters.ensures.ok)
    ∙ bind_gives _ _ (body_done (option_map stmt_view c.in_ok-code.code) (progress_seen c.body_if.new.progress))
    (ap (λ (returning : Returning). body_if c.args.walk returning (begun (scope_seen c.add_parameters.new.scope) (progress_seen c.add_parameters.new.progress)) (block_view_of_option c.args.body.now))
    (sym c.returning_of-returning.ensures)
    ∙ c.in_ok-code.ensures.ok)
    ∙ ap gives (sym c.in_ok-done.ensures)
