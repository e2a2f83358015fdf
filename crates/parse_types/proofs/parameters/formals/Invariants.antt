use Rattle.std.proofs.Common.{◌≡◌, ◌-◌, ◌≤◌, map, length}
use Rattle.je_ast.specs.Types.{formal_view}
use Rattle.je_ast.specs.Height.{formals_height}
use Rattle.parse_laws.specs.way.Types.{formals_at, more_formals_at}
use Rattle.parse_types.proofs.parameters.formals.Given as goal

abbrev pub invariant-loop : goal.invariant-loop
invariant-loop l = record {
  same : more_formals_at (length l.initial.next - l.counter) l.most (map formal_view l.list.items) l.next ≡ formals_at l.most l.fn.tokens;
  height : l.height ≡ formals_height (map formal_view l.list.items);
  limit : l.height ≤ l.most;
}
