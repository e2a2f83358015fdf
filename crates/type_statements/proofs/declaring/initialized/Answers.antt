use Rattle.std.proofs.Common.{List, ap}
use Rattle.je_ast.specs.View.{view}
use Rattle.je_core.specs.View.{stmt_view, view as node_seen}
use Rattle.body_typing.specs.Bodies.{Met}
use Rattle.body_places.specs.Places.{local_seen}
use Rattle.body_scopes.specs.View.{scope_seen}
use Rattle.statement_forms.specs.Seen.{program_of, progress_seen}
use Rattle.type_statements.proofs.Declared.{declared_is}
use Rattle.type_statements.proofs.LocalsAdded.{local_added}
use Rattle.type_statements.proofs.declaring.initialized.Goals as goal

pub returns-clause-done : goal.returns-clause-done
returns-clause-done c =
    rw (c.in_ok-push.ensures.items, c.in_ok-push-2.ensures.items, c.nothing-done.ensures.code, c.nothing-done.ensures.numbers)
    (declared_is (program_of c.args.walk) c.args.declared.is_final c.args.declared.start (scope_seen c.args.scope.now) (scope_seen c.add_local.new.self)
    (progress_seen c.args.progress.now) (progress_seen c.add_number.new.progress) _ (local_seen c.args.variable) c.args.name (view c.args.expr.now)
    (node_seen c.args.node) (node_seen c.in_ok-whole.whole) (stmt_view c.in_ok-performed.field-0) c.span.result
    c.span.ensures c.in_ok-whole.ensures c.in_ok-performed.ensures c.in_ok-add_local.ensures c.in_ok-add_number.ensures
    (ap (λ (ms : List Met). record (progress_seen c.add_number.new.progress) { met = ms }) c.in_ok-add_met.ensures))

pub returns-clause-extends : goal.returns-clause-extends
returns-clause-extends c = local_added _ _ c.args.declared.is_final _ c.in_ok-add_local.ensures
