use Rattle.std.proofs.Common.{List, Some, sym, ap, ◌∙◌}
use Rattle.je_ast.specs.declared.stmt.Stmt.{Stmt}
use Rattle.je_ast.specs.View.{statement_views_of}
use Rattle.je_core.specs.Core.{CoreStmt}
use Rattle.je_fitting.specs.Statements.{no_targets}
use Rattle.je_typing.specs.Judged.{gives}
use Rattle.je_typing.proofs.Walks.{bind_gives}
use Rattle.statement_steps.specs.View.{returning_seen}
use Rattle.body_typing.specs.Statements.{statements}
use Rattle.body_scopes.specs.View.{scope_seen}
use Rattle.member_forms.specs.Statements.{done_seen, progress_seen}
use Rattle.member_forms.specs.Seen.{known_of, program_of}
use Rattle.member_forms.specs.Walks.{body_done}
use Rattle.type_decl.proofs.bodies.body_if.Goals as goal

pub returns-clause-ok : goal.returns-clause-ok
returns-clause-ok c =
    rw c.in-Some.is
    (bind_gives _ _ (done_seen c.in_ok-done.done c.body_statements.new.scope c.body_statements.new.progress)
    (ap (λ (ss : List Stmt). statements (program_of c.args.walk) (known_of c.args.walk) (returning_seen c.args.returning) no_targets (scope_seen c.args.scope.now) (progress_seen c.args.progress.now) (statement_views_of ss)) (sym c.deref.ensures.value)
    ∙ c.in_ok-done.ensures.ok)
    ∙ ap (λ (code : CoreStmt). gives (body_done (Some code) (progress_seen c.body_statements.new.progress)))
    (sym (c.in_ok-code.ensures (scope_seen c.body_statements.new.scope) (progress_seen c.body_statements.new.progress))))
