use Rattle.std.proofs.Common.{◌≡◌, ◌-◌, ◌≤◌, [], map, length}
use Rattle.je_ast.specs.View.{group_views_of}
use Rattle.je_ast.specs.Height.{groups_height}
use Rattle.parse_laws.specs.way.Statements.{groups_at}
use Rattle.parse_statements.specs.way.Views.{group_tree}
use Rattle.parse_statements.specs.way.Readings as reading
use Rattle.parse_below.specs.way.Readings.{below_at}
use Rattle.parse_statements.proofs.switches.groups.Given as goal

abbrev pub invariant-loop : goal.invariant-loop
invariant-loop g l = record {
  same : groups_at l.setting.below (below_at l.setting) (length l.fn.tokens - l.counter) (map group_tree l.items.items) l.next ≡ reading.groups_at l.fn.setting (length l.fn.tokens) [] l.fn.tokens;
  height : l.height ≡ groups_height (group_views_of l.items.items);
  limit : l.height ≤ l.setting.below;
}
