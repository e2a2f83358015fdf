use Rattle.std.proofs.Common.{◌≡◌, ◌-◌, ◌≤◌, map, length}
use Rattle.je_ast.specs.Types.{type_view, type_views_of, types_height}
use Rattle.parse_laws.specs.way.Types.{references_at, more_references_at}
use Rattle.parse_types.proofs.heads.references.Given as goal

abbrev pub invariant-loop : goal.invariant-loop
invariant-loop l = record {
  same : more_references_at (length l.fn.tokens - l.counter) l.most (map type_view l.list.items) l.next ≡ references_at l.fn.word l.most l.fn.tokens;
  height : l.height ≡ types_height (type_views_of l.list.items);
  limit : l.height ≤ l.most;
}
