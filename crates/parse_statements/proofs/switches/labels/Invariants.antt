use Rattle.std.proofs.Common.{◌≡◌, ◌-◌, ◌≤◌, [], map, length}
use Rattle.je_ast.specs.View.{label_views_of}
use Rattle.je_ast.specs.Height.{labels_height}
use Rattle.parse_laws.specs.way.Statements.{labels_at}
use Rattle.parse_statements.specs.way.Views.{label_tree}
use Rattle.parse_statements.specs.way.Readings as reading
use Rattle.parse_below.specs.way.Readings.{below_at}
use Rattle.parse_statements.proofs.switches.labels.Given as goal

abbrev pub invariant-loop : goal.invariant-loop
invariant-loop g l = record {
  same : labels_at l.setting.below (below_at l.setting) (length l.fn.tokens - l.counter) (map label_tree l.list.items) l.next ≡ reading.labels_at l.fn.setting (length l.fn.tokens) [] l.fn.tokens;
  height : l.height ≡ labels_height (label_views_of l.list.items);
  limit : l.height ≤ l.setting.below;
}
