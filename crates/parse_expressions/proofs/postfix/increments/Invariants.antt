use Rattle.std.proofs.Common.{◌≡◌, suc, ◌+◌, ◌-◌, ◌≤◌}
use Rattle.je_ast.specs.View.{view}
use Rattle.je_ast.specs.Height.{height}
use Rattle.parse_operators.specs.way.Readings.{increments_at}
use Rattle.parse_expressions.proofs.postfix.increments.Given as goal

abbrev pub invariant-loop : goal.invariant-loop
invariant-loop l = record {
  same : increments_at l.setting (suc l.setting.below - l.counter) (view l.left.tree) l.left.rest.now ≡ increments_at l.fn.setting (suc l.fn.setting.below) (view l.fn.operand.tree) l.fn.operand.rest.now;
  height : l.left.height ≡ height (view l.left.tree);
  limit : l.left.height ≤ l.setting.below + 1;
}
