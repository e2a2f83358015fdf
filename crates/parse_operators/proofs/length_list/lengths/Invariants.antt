use Rattle.std.proofs.Common.{◌≡◌, ◌-◌, ◌≤◌, Some, map, length}
use Rattle.je_ast.specs.View.{view, views_of}
use Rattle.je_ast.specs.Height.{heights}
use Rattle.parse_laws.specs.way.Expressions.{more_lengths_at}
use Rattle.parse_below.specs.way.Readings.{below_at, body_at}
use Rattle.parse_operators.specs.way.Readings.{lengths_at}
use Rattle.parse_operators.proofs.length_list.lengths.Given as goal

abbrev pub invariant-loop : goal.invariant-loop
invariant-loop g l = record {
  same : Some (more_lengths_at l.setting.texts.now l.setting.below (below_at l.setting) (body_at l.setting) (length l.fn.tokens - l.counter) (map view l.items.items) l.close l.rest) ≡ lengths_at l.fn.setting l.fn.tokens;
  height : l.height ≡ heights (views_of l.items.items);
  limit : l.height ≤ l.setting.below;
}
