use Rattle.std.proofs.Common.{arith}
use Rattle.je_ast.specs.Types.{type_view}
use Rattle.je_core.specs.View.{stmt_view}
use Rattle.name_types.specs.View.{shown}
use Rattle.std.specs.Prelude.{map}
use Rattle.body_scopes.specs.View.{scope_seen}
use Rattle.body_scopes.proofs.Extending.{extends_further, extends_itself}
use Rattle.statement_forms.specs.Seen.{done_seen, progress_seen}
use Rattle.type_statements.proofs.VariableLists.{variables_begin, variables_on}
use Rattle.type_statements.proofs.declaring.variables.Goals as goal

pub loop-var-init : goal.loop-var-init
loop-var-init c = (
  variables_begin c.args.walk c.args.declared.is_final c.args.declared.start (type_view c.args.declared.written.now) (shown c.args.declared.ty.now)
      c.args.vars.now (done_seen c.nothing-done.result c.args.scope.now c.args.progress.now)
      (λ i. record {
        code = map stmt_view (c.nothing-done.ensures.code i);
        numbers = c.nothing-done.ensures.numbers i;
        scope = scope_seen c.args.scope.now;
        progress = progress_seen c.args.progress.now;
      }),
  extends_itself (scope_seen c.args.scope.now),
)

pub loop-var-preserved : goal.loop-var-preserved
loop-var-preserved c = (
  variables_on c.args.walk c.args.declared.is_final c.args.declared.start (type_view c.args.declared.written.now) (shown c.args.declared.ty.now)
      c.args.vars.now _ c.loop-var.var-index (done_seen c.loop-var.done c.loop-var.scope c.loop-var.progress) c.var-item.result
      (done_seen c.in_ok-more.more c.variable.new.scope c.variable.new.progress)
      (done_seen c.follow.new.done c.variable.new.scope c.variable.new.progress)
      (omega arith) c.var-item.is c.loop-var.invariant.0 c.in_ok-more.ensures.ok
      (c.in_ok-follow.ensures (scope_seen c.variable.new.scope) (progress_seen c.variable.new.progress)),
  extends_further (scope_seen c.args.scope.now) (scope_seen c.loop-var.scope) (scope_seen c.variable.new.scope) c.loop-var.invariant.1
      c.in_ok-more.ensures.extends,
)
