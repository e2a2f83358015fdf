use Rattle.std.proofs.Common.{◌≡◌, suc, ◌+◌, ◌-◌, ◌≤◌}
use Rattle.je_ast.specs.View.{view}
use Rattle.je_ast.specs.Height.{height}
use Rattle.parse_operators.specs.way.Readings.{operations_at}
use Rattle.parse_expressions.proofs.operations.operations.Given as goal

abbrev pub invariant-loop : goal.invariant-loop
invariant-loop g l = record {
  same : operations_at l.setting (suc l.setting.below - l.counter) l.least l.most (view l.left.tree) l.left.rest.now ≡ operations_at l.fn.setting (suc l.fn.setting.below) l.fn.least 12 (view l.fn.operand.tree) l.fn.operand.rest.now;
  height : l.left.height ≡ height (view l.left.tree);
  limit : l.left.height ≤ l.setting.below + 1;
}
