use Rattle.std.proofs.Common.{◌≡◌, suc, ◌+◌, ◌-◌, ◌≤◌}
use Rattle.je_ast.specs.View.{view}
use Rattle.je_ast.specs.Height.{height}
use Rattle.parse_operators.specs.way.Readings.{selections_at}
use Rattle.parse_expressions.proofs.postfix.selections.Given as goal

abbrev pub invariant-loop : goal.invariant-loop
invariant-loop g l = record {
  same : selections_at l.setting (suc l.setting.below - l.counter) (view l.left.tree) l.left.rest.now ≡ selections_at l.fn.setting (suc l.fn.setting.below) (view l.fn.primary.tree) l.fn.primary.rest.now;
  height : l.left.height ≡ height (view l.left.tree);
  limit : l.left.height ≤ l.setting.below + 1;
}
