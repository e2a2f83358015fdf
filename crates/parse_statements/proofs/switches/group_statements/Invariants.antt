use Rattle.std.proofs.Common.{◌≡◌, ◌-◌, ◌≤◌, [], map, length}
use Rattle.je_ast.specs.View.{statement_view, statement_views_of}
use Rattle.je_ast.specs.Height.{statements_height}
use Rattle.parse_laws.specs.way.Statements.{group_statements_at}
use Rattle.parse_statements.specs.way.Readings as reading
use Rattle.parse_below.specs.way.Readings.{below_at}
use Rattle.parse_statements.proofs.switches.group_statements.Given as goal

abbrev pub invariant-loop : goal.invariant-loop
invariant-loop g l = record {
  same : group_statements_at l.setting.below (below_at l.setting) (length l.fn.tokens - l.counter) (map statement_view l.list.items) l.next ≡ reading.group_statements_at l.fn.setting (length l.fn.tokens) [] l.fn.tokens;
  height : l.height ≡ statements_height (statement_views_of l.list.items);
  limit : l.height ≤ l.setting.below;
}
