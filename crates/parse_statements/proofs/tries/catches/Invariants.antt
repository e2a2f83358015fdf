use Rattle.std.proofs.Common.{◌≡◌, ◌-◌, ◌≤◌, [], map, length}
use Rattle.je_ast.specs.View.{catch_views_of}
use Rattle.je_ast.specs.Height.{catches_height}
use Rattle.parse_laws.specs.way.Statements.{catches_at}
use Rattle.parse_statements.specs.way.Views.{catch_tree}
use Rattle.parse_statements.specs.way.Readings as reading
use Rattle.parse_below.specs.way.Readings.{below_at}
use Rattle.parse_statements.proofs.tries.catches.Given as goal

abbrev pub invariant-loop : goal.invariant-loop
invariant-loop g l = record {
  same : catches_at l.setting.below (below_at l.setting) (length l.fn.tokens - l.counter) (map catch_tree l.items.items) l.last l.rest ≡ reading.catches_at l.fn.setting (length l.fn.tokens) [] l.fn.close l.fn.tokens;
  height : l.height ≡ catches_height (catch_views_of l.items.items);
  limit : l.height ≤ l.setting.below;
}
