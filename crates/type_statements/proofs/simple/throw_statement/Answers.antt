use Rattle.je_ast.specs.View.{view}
use Rattle.je_core.specs.View.{stmt_view}
use Rattle.typed_nodes.specs.Seen.{seen}
use Rattle.body_scopes.specs.View.{scope_seen}
use Rattle.statement_forms.specs.Seen.{done_in, progress_seen}
use Rattle.type_statements.proofs.Expressed.{throw_is}
use Rattle.type_statements.proofs.simple.throw_statement.Goals as goal

pub returns-clause-ok : goal.returns-clause-ok
returns-clause-ok c =
    throw_is c.args.walk (scope_seen c.args.scope.now) (progress_seen c.args.progress.now) (progress_seen c.valued.new.progress) (view c.args.value.now)
    (seen c.in_ok-made.made) c.in_ok-made.ensures.met (stmt_view c.in_ok-code.code)
    (done_in c.in_ok-whole.whole (scope_seen c.args.scope.now) (progress_seen c.valued.new.progress))
    (c.in_ok-whole.ensures (scope_seen c.args.scope.now) (progress_seen c.valued.new.progress)) c.args.word c.span.result c.span.ensures
    c.in_ok-made.ensures.ok c.in_ok-code.ensures.ok
