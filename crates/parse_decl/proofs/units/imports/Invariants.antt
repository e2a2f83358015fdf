use Rattle.std.proofs.Common.{◌≡◌, ◌≤◌, ◌-◌, [], map, length, drop}
use Rattle.je_ast.specs.Types.{name_view}
use Rattle.parse_laws.specs.way.Knot.{imports_at}
use Rattle.parse_decl.proofs.units.imports.Given as goal

abbrev pub invariant-loop : goal.invariant-loop
invariant-loop l = record {
  same : imports_at l.fn.tokens.names l.fn.tokens.texts.items (length l.fn.tokens.list.items - l.counter) (map name_view l.list.items) (drop l.place l.fn.tokens.list.items)
      ≡ imports_at l.fn.tokens.names l.fn.tokens.texts.items (length l.fn.tokens.list.items) [] l.fn.tokens.list.items;
  inside : l.place ≤ length l.fn.tokens.list.items;
}
