use Rattle.std.proofs.Common.{ap, sym, ◌∙◌}
use Rattle.std.proofs.lemmas.Result.{err_from_is_err_and}
use Rattle.je_ast.specs.View.{view}
use Rattle.je_core.specs.View.{stmt_view, view as node_seen}
use Rattle.je_typing.specs.Judged.{gives}
use Rattle.name_types.specs.View.{shown}
use Rattle.typed_nodes.specs.Seen.{seen}
use Rattle.body_scopes.specs.View.{scope_seen}
use Rattle.type_statements.proofs.Eaches.{each_is, no_elements, not_assigned}
use Rattle.type_statements.proofs.each.for_each_judged.Goals as goal

pub returns-clause-ok : goal.returns-clause-ok
returns-clause-ok c =
    each_is c.args.walk (scope_seen c.args.scope.now) c.args.label c.args.elements.word (view c.args.elements.written.now) (seen c.args.elements.array)
    c.args.elements.local (shown c.args.elements.ty.now) c.args.elements.name (stmt_view c.args.body)
    c.in_ok-new_name.field-0 (shown c.in_ok-of.of) (node_seen c.in_ok-node.node) c.in_ok-new_name.ensures.ok c.in_ok-of.ensures.ok c.in_ok-node.ensures.ok
    ∙ ap gives (sym c.in_ok-code.ensures)

pub returns-in_err-of-clause-err : goal.returns-in_err-of-clause-err
returns-in_err-of-clause-err c =
    let p = err_from_is_err_and c.from_residual-in_err-of.result c.from_residual-in_err-of.ensures.1 in
    rw (p.1, p.2)
    (no_elements c.args.walk (scope_seen c.args.scope.now) c.args.label c.args.elements.word (view c.args.elements.written.now) (seen c.args.elements.array)
    c.args.elements.local (shown c.args.elements.ty.now) c.args.elements.name (stmt_view c.args.body)
    c.in_ok-new_name.field-0 _ c.in_ok-new_name.ensures.ok c.in_err-of.ensures.err)

pub returns-in_err-node-clause-err : goal.returns-in_err-node-clause-err
returns-in_err-node-clause-err c =
    let p = err_from_is_err_and c.from_residual-in_err-node.result c.from_residual-in_err-node.ensures.1 in
    rw (p.1, p.2)
    (not_assigned c.args.walk (scope_seen c.args.scope.now) c.args.label c.args.elements.word (view c.args.elements.written.now) (seen c.args.elements.array)
    c.args.elements.local (shown c.args.elements.ty.now) c.args.elements.name (stmt_view c.args.body)
    c.in_ok-new_name.field-0 (shown c.in_ok-of.of) _ c.in_ok-new_name.ensures.ok c.in_ok-of.ensures.ok c.in_err-node.ensures.err)
