use Rattle.std.proofs.Common.{sym, ap, ◌∙◌}
use Rattle.std.proofs.lemmas.Result.{err_from_is_err_and}
use Rattle.je_base.specs.declared.span.Span.{Span}
use Rattle.je_ast.specs.View.{view as tree_of}
use Rattle.je_core.specs.View.{view}
use Rattle.je_typing.specs.Conversions.{assigned}
use Rattle.je_typing.specs.Judged.{gives}
use Rattle.declarations.specs.View.{field_shown}
use Rattle.body_typing.specs.ConstantVariables.{variable_constant}
use Rattle.name_types.specs.View.{shown}
use Rattle.typed_nodes.specs.Seen.{seen}
use Rattle.member_forms.specs.Seen.{program_of}
use Rattle.member_forms.specs.way.Fields.{kept_constant}
use Rattle.member_forms.proofs.Kept.{initialized_faults, initialized_is}
use Rattle.member_forms.proofs.fields.initialized.Goals as goal

pub returns-in_err-static_kept-clause-err : goal.returns-in_err-static_kept-clause-err
returns-in_err-static_kept-clause-err c =
    let p = err_from_is_err_and c.from_residual-in_err-static_kept.result c.from_residual-in_err-static_kept.ensures.1 in
    rw (p.1, p.2) (initialized_faults c.args.walk c.args.at c.args.name (tree_of c.args.expr.now) (field_shown c.args.field.now) (seen c.args.from) (view c.in_ok-node.node) _
    (ap (λ (at : Span). assigned (program_of c.args.walk).heads (shown c.args.field.now.ty) at (seen c.args.from)) (sym c.span-span.ensures) ∙ c.in_ok-node.ensures.ok)
    (c.in_ok-kept.ensures
    ∙ ap (λ (at : Span). kept_constant c.args.walk (field_shown c.args.field.now) at (view c.args.from.node) c.args.field.now.is_static
    (variable_constant c.args.field.now.is_final (shown c.args.field.now.ty) (view c.args.from.node))) c.span-span.ensures)
    _ c.in_err-static_kept.ensures.err)

pub returns-clause-ok : goal.returns-clause-ok
returns-clause-ok c =
    initialized_is c.args.walk c.args.at c.args.name (tree_of c.args.expr.now) (field_shown c.args.field.now) (seen c.args.from) (view c.in_ok-node.node) _
    (ap (λ (at : Span). assigned (program_of c.args.walk).heads (shown c.args.field.now.ty) at (seen c.args.from)) (sym c.span-span.ensures) ∙ c.in_ok-node.ensures.ok)
    (c.in_ok-kept.ensures
    ∙ ap (λ (at : Span). kept_constant c.args.walk (field_shown c.args.field.now) at (view c.args.from.node) c.args.field.now.is_static
    (variable_constant c.args.field.now.is_final (shown c.args.field.now.ty) (view c.args.from.node))) c.span-span.ensures)
    _ c.in_ok-static_kept.ensures.ok
    ∙ ap gives (sym c.in_ok-done.ensures)
