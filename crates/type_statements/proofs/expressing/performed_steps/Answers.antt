use Rattle.std.proofs.Common.{ap, ◌∙◌, arith}
use Rattle.je_base.specs.declared.span.Span.{Span}
use Rattle.je_core.specs.View.{view as node_seen}
use Rattle.typed_nodes.specs.Seen.{seen}
use Rattle.body_scopes.specs.View.{scope_seen}
use Rattle.body_typing.specs.Bodies.{Done, followed, one, performed}
use Rattle.statement_forms.specs.Seen.{done_in, progress_seen}
use Rattle.type_statements.proofs.StepLists.{performed_on}
use Rattle.type_statements.proofs.expressing.performed_steps.Goals as goal

pub loop-expr-preserved : goal.loop-expr-preserved
loop-expr-preserved c =
    let before = done_in c.loop-expr.done (scope_seen c.args.scope.now) (progress_seen c.loop-expr.progress) in
    let code = c.in_ok-code.ensures ∙ ap (λ (at : Span). performed at (node_seen c.in_ok-made.made.node)) c.span.ensures in
    performed_on c.args.walk (scope_seen c.args.scope.now) c.args.list.now _ c.loop-expr.expr-index before c.expr-item.result (seen c.in_ok-made.made)
    (done_in c.follow.new.done (scope_seen c.args.scope.now) (progress_seen c.expressed.new.progress))
    (omega arith) c.expr-item.is c.loop-expr.invariant c.in_ok-made.ensures.ok
    (c.in_ok-follow.ensures (scope_seen c.args.scope.now) (progress_seen c.expressed.new.progress)
    ∙ ap (λ (d : Done). followed before d) (c.in_ok-more.ensures (scope_seen c.args.scope.now) (progress_seen c.expressed.new.progress)
    ∙ (λ i. one (code i) (scope_seen c.args.scope.now) (c.in_ok-made.ensures.met i))))
