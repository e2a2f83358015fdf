use Rattle.std.proofs.Common.{sym, ap, ◌∙◌}
use Rattle.je_ast.specs.View.{statement_views_of}
use Rattle.je_fitting.specs.Statements.{no_targets}
use Rattle.je_typing.specs.Judged.{gives}
use Rattle.je_typing.proofs.Walks.{bind_gives}
use Rattle.statement_steps.specs.Returns.{never}
use Rattle.body_typing.specs.Statements.{statements}
use Rattle.body_scopes.specs.View.{scope_seen}
use Rattle.member_forms.specs.Statements.{done_seen}
use Rattle.member_forms.specs.Seen.{known_of, program_of}
use Rattle.type_decl.proofs.initializers.initializer.Goals as goal

pub returns-clause-ok : goal.returns-clause-ok
returns-clause-ok c =
    bind_gives _ _ (done_seen c.in_ok-done.done c.body_statements.new.scope c.body_statements.new.progress)
    ((λ i. statements (program_of c.args.walk) (known_of c.args.walk) never no_targets (sym c.initializer_scope-scope.ensures i) (sym c.nothing_met-progress.ensures i)
    (ap statement_views_of (sym c.deref.ensures.value) i))
    ∙ c.in_ok-done.ensures.ok)
    ∙ ap gives (sym (c.in_ok-members.ensures (scope_seen c.body_statements.new.scope)))
