use Rattle.std.proofs.Common.{sym, ap, ◌∙◌}
use Rattle.std.specs.Prelude.{option_map}
use Rattle.std.proofs.lemmas.Result.{err_from_is_err_and}
use Rattle.je_base.specs.declared.span.Span.{Span}
use Rattle.je_core.specs.declared.types.ClassId.{ClassId}
use Rattle.je_ast.specs.declared.stmt.Label.TheVariants as node
use Rattle.je_ast.specs.View.{view}
use Rattle.je_typing.specs.Judged.{gives}
use Rattle.je_typing.proofs.Walks.{bind_faults, bind_gives}
use Rattle.statement_steps.specs.Switches.{case}
use Rattle.body_typing.specs.Switches.{label_value}
use Rattle.typed_nodes.specs.Seen.{seen}
use Rattle.body_scopes.specs.View.{scope_seen}
use Rattle.statement_forms.specs.Seen.{known_of, program_of}
use Rattle.type_statements.proofs.switch_labels.label.Goals as goal

pub returns-in_err-value-in-Case-clause-err : goal.returns-in_err-value-in-Case-clause-err
returns-in_err-value-in-Case-clause-err c =
    let p = err_from_is_err_and c.from_residual.result c.from_residual.ensures.1 in
    let of_enum = option_map (λ (n : ClassId). n.0) c.args.of_enum in
    rw (p.1, p.2) (rw c.in-Case.is (rw (node.outs-Case c.in-Case.written)
    (bind_faults (label_value (program_of c.args.walk) (known_of c.args.walk) of_enum (scope_seen c.args.scope.now) of_enum (view c.in-Case.written)) _ _
    c.in_err-value-in-Case.ensures.err)))

pub returns-in_ok-value-in-Case-clause-ok : goal.returns-in_ok-value-in-Case-clause-ok
returns-in_ok-value-in-Case-clause-ok c =
    let of_enum = option_map (λ (n : ClassId). n.0) c.args.of_enum in
    rw c.in-Case.is (rw (node.outs-Case c.in-Case.written)
    (bind_gives (label_value (program_of c.args.walk) (known_of c.args.walk) of_enum (scope_seen c.args.scope.now) of_enum (view c.in-Case.written)) _
    (seen c.in_ok-value-in-Case.value) c.in_ok-value-in-Case.ensures.ok
    ∙ ap (λ (at : Span). gives (case at (seen c.in_ok-value-in-Case.value))) (sym c.span-span.ensures)))
