use Rattle.std.proofs.Common.{◌≡◌, ◌≤◌, ◌-◌, [], map, length, drop}
use Rattle.je_ast.specs.View.{declaration_view}
use Rattle.parse_laws.specs.way.Knot.{declarations_at}
use Rattle.parse_decl.proofs.units.declarations.Given as goal

abbrev pub invariant-loop : goal.invariant-loop
invariant-loop l = record {
  same : declarations_at l.fn.tokens.names l.fn.tokens.texts.items (length l.fn.tokens.list.items - l.counter) 300 (map declaration_view l.list.items) (drop l.place l.fn.tokens.list.items)
      ≡ declarations_at l.fn.tokens.names l.fn.tokens.texts.items (length l.fn.tokens.list.items) 300 [] (drop l.fn.from l.fn.tokens.list.items);
  inside : l.place ≤ length l.fn.tokens.list.items;
}
