use Rattle.std.proofs.lemmas.Result.{err_from_is_err_and}
use Rattle.je_ast.specs.Types.{type_view}
use Rattle.je_ast.specs.View.{view}
use Rattle.je_core.specs.View.{view as node_seen}
use Rattle.name_types.specs.View.{shown}
use Rattle.std.specs.Prelude.{option_map}
use Rattle.typed_nodes.specs.Seen.{seen}
use Rattle.body_places.specs.Places.{local_seen}
use Rattle.body_places.specs.Tables.{constant_seen}
use Rattle.body_scopes.specs.View.{scope_seen}
use Rattle.statement_forms.specs.Seen.{done_seen, progress_seen}
use Rattle.type_statements.proofs.Initialized.{initialized_is, no_value, not_converted, old_name, too_many}
use Rattle.type_statements.proofs.declaring.with_initializer.Goals as goal

pub returns-in_err-from-clause-err : goal.returns-in_err-from-clause-err
returns-in_err-from-clause-err c =
    let p = err_from_is_err_and c.from_residual-in_err-from.result c.from_residual-in_err-from.ensures.1 in
    rw (p.1, p.2)
    (no_value c.args.walk c.args.declared.is_final c.args.declared.start (type_view c.args.declared.written.now) (shown c.args.declared.ty.now)
    (scope_seen c.args.scope.now) (progress_seen c.args.progress.now) c.args.var.now.name c.args.var.now.dims (shown c.args.ty.now) (view c.args.expr.now)
    c.in_ok-number.number (local_seen c.in_ok-variable.variable) c.in_ok-number.ensures c.in_ok-variable.ensures _ c.in_err-from.ensures.err)

pub returns-in_err-new_name-clause-err : goal.returns-in_err-new_name-clause-err
returns-in_err-new_name-clause-err c =
    let p = err_from_is_err_and c.from_residual-in_err-new_name.result c.from_residual-in_err-new_name.ensures.1 in
    rw (p.1, p.2)
    (old_name c.args.walk c.args.declared.is_final c.args.declared.start (type_view c.args.declared.written.now) (shown c.args.declared.ty.now)
    (scope_seen c.args.scope.now) (progress_seen c.args.progress.now) c.args.var.now.name c.args.var.now.dims (shown c.args.ty.now) (view c.args.expr.now)
    c.in_ok-number.number (local_seen c.in_ok-variable.variable) c.in_ok-number.ensures c.in_ok-variable.ensures
    (seen c.in_ok-from.from) c.in_ok-from.ensures.ok (scope_seen c.initial_value.new.scope) c.in_ok-from.ensures.stays _ c.in_err-new_name.ensures.err)

pub returns-in_err-node-clause-err : goal.returns-in_err-node-clause-err
returns-in_err-node-clause-err c =
    let p = err_from_is_err_and c.from_residual-in_err-node.result c.from_residual-in_err-node.ensures.1 in
    rw (p.1, p.2)
    (not_converted c.args.walk c.args.declared.is_final c.args.declared.start (type_view c.args.declared.written.now) (shown c.args.declared.ty.now)
    (scope_seen c.args.scope.now) (progress_seen c.args.progress.now) c.args.var.now.name c.args.var.now.dims (shown c.args.ty.now) (view c.args.expr.now)
    c.in_ok-number.number (local_seen c.in_ok-variable.variable) c.in_ok-number.ensures c.in_ok-variable.ensures
    (seen c.in_ok-from.from) c.in_ok-from.ensures.ok (scope_seen c.initial_value.new.scope) c.in_ok-from.ensures.stays
    c.in_ok-new_name.field-0 c.in_ok-new_name.ensures.ok _
    (rw c.span.ensures at c.in_err-node.ensures.err))

pub returns-in_err-judge_declared-clause-err : goal.returns-in_err-judge_declared-clause-err
returns-in_err-judge_declared-clause-err c =
    let p = err_from_is_err_and c.from_residual-in_err-judge_declared.result c.from_residual-in_err-judge_declared.ensures.1 in
    rw (p.1, p.2)
    (too_many c.args.walk c.args.declared.is_final c.args.declared.start (type_view c.args.declared.written.now) (shown c.args.declared.ty.now)
    (scope_seen c.args.scope.now) (progress_seen c.args.progress.now) c.args.var.now.name c.args.var.now.dims (shown c.args.ty.now) (view c.args.expr.now)
    c.in_ok-number.number (local_seen c.in_ok-variable.variable) c.in_ok-number.ensures c.in_ok-variable.ensures
    (seen c.in_ok-from.from) c.in_ok-from.ensures.ok (scope_seen c.initial_value.new.scope) c.in_ok-from.ensures.stays
    c.in_ok-new_name.field-0 c.in_ok-new_name.ensures.ok (node_seen c.in_ok-node.node) (rw c.span.ensures at c.in_ok-node.ensures.ok) _
    c.in_err-judge_declared.ensures.err)

pub returns-clause-ok : goal.returns-clause-ok
returns-clause-ok c =
    initialized_is c.args.walk c.args.declared.is_final c.args.declared.start (type_view c.args.declared.written.now) (shown c.args.declared.ty.now)
    (scope_seen c.args.scope.now) (progress_seen c.args.progress.now) c.args.var.now.name c.args.var.now.dims (shown c.args.ty.now) (view c.args.expr.now)
    c.in_ok-number.number (local_seen c.in_ok-variable.variable) c.in_ok-number.ensures c.in_ok-variable.ensures
    (seen c.in_ok-from.from) c.in_ok-from.ensures.ok (scope_seen c.initial_value.new.scope) c.in_ok-from.ensures.stays
    c.in_ok-new_name.field-0 c.in_ok-new_name.ensures.ok (node_seen c.in_ok-node.node) (rw c.span.ensures at c.in_ok-node.ensures.ok)
    c.in_ok-judge_declared.field-0 (option_map constant_seen c.in_ok-constant.constant) (local_seen c.in_ok-variable-2.variable)
    (done_seen c.in_ok-done.done c.initialized.new.scope c.initialized.new.progress) c.in_ok-judge_declared.ensures.ok
    c.in_ok-constant.ensures c.in_ok-variable-2.ensures c.in_ok-done.ensures.done
