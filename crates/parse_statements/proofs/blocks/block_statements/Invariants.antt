use Rattle.std.proofs.Common.{◌≡◌, ◌-◌, ◌≤◌, map, length}
use Rattle.je_ast.specs.View.{statement_view, statement_views_of}
use Rattle.je_ast.specs.Height.{statements_height}
use Rattle.parse_laws.specs.way.Statements.{more_statements_at}
use Rattle.parse_below.specs.way.Readings.{below_at}
use Rattle.parse_statements.specs.way.Readings.{block_statements_at}
use Rattle.parse_statements.proofs.blocks.block_statements.Given as goal

abbrev pub invariant-loop : goal.invariant-loop
invariant-loop g l = record {
  same : more_statements_at l.setting.below (below_at l.setting) (length l.fn.tokens - l.counter) (map statement_view l.items.items) l.next ≡ block_statements_at l.fn.setting l.fn.tokens;
  height : l.height ≡ statements_height (statement_views_of l.items.items);
  limit : l.height ≤ l.setting.below;
}
