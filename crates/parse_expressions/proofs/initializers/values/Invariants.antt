use Rattle.std.proofs.Common.{◌≡◌, ◌-◌, ◌≤◌, [], map, length}
use Rattle.je_ast.specs.View.{view, views_of}
use Rattle.je_ast.specs.Height.{heights}
use Rattle.parse_operators.specs.way.Readings.{values_at, behind_lone_comma_at}
use Rattle.parse_expressions.proofs.initializers.values.Given as goal

abbrev pub invariant-loop : goal.invariant-loop
invariant-loop g l = record {
  same : values_at l.setting (length l.fn.tokens - l.counter) (map view l.items.items) l.next ≡ values_at l.fn.setting (length l.fn.tokens) [] (behind_lone_comma_at l.fn.tokens);
  height : l.height ≡ heights (views_of l.items.items);
  limit : l.height ≤ l.setting.below;
}
