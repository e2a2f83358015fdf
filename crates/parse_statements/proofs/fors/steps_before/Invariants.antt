use Rattle.std.proofs.Common.{◌≡◌, ◌-◌, ◌≤◌, [], map, length}
use Rattle.je_ast.specs.View.{view, views_of}
use Rattle.je_ast.specs.Height.{heights}
use Rattle.parse_laws.specs.way.Statements.{more_steps_at}
use Rattle.parse_statements.specs.way.Readings.{steps_before_at}
use Rattle.parse_below.specs.way.Readings.{below_at}
use Rattle.parse_statements.proofs.fors.steps_before.Given as goal

abbrev pub invariant-loop : goal.invariant-loop
invariant-loop g l = record {
  same : more_steps_at l.setting.below (below_at l.setting) (length l.fn.tokens - l.counter) l.fn.end (map view l.list.items) l.next ≡ steps_before_at l.fn.setting l.fn.end l.fn.tokens;
  height : l.height ≡ heights (views_of l.list.items);
  limit : l.height ≤ l.setting.below;
}
