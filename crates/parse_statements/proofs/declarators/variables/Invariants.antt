use Rattle.std.proofs.Common.{◌≡◌, ◌-◌, ◌≤◌, map, length}
use Rattle.je_ast.specs.View.{variable_views_of}
use Rattle.je_ast.specs.Height.{variables_height}
use Rattle.parse_laws.specs.way.Statements.{more_variables_at}
use Rattle.parse_below.specs.way.Readings.{below_at}
use Rattle.parse_statements.specs.way.Views.{variable_tree}
use Rattle.parse_statements.specs.way.Readings.{variables_at}
use Rattle.parse_statements.proofs.declarators.variables.Given as goal

abbrev pub invariant-loop : goal.invariant-loop
invariant-loop g l = record {
  same : more_variables_at l.setting.below (below_at l.setting) (length l.fn.tokens - l.counter) (map variable_tree l.list.items) l.next ≡ variables_at l.fn.setting l.fn.tokens;
  height : l.height ≡ variables_height (variable_views_of l.list.items);
  limit : l.height ≤ l.setting.below;
}
