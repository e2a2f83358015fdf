use Rattle.std.proofs.Common.{◌≡◌, ◌-◌, ◌≤◌, map, length}
use Rattle.je_ast.specs.Types.{parameter_view}
use Rattle.je_ast.specs.Height.{parameters_height}
use Rattle.parse_laws.specs.way.Types.{parameters_at, more_parameters_at}
use Rattle.parse_types.proofs.heads.type_params.Given as goal

abbrev pub invariant-loop : goal.invariant-loop
invariant-loop l = record {
  same : more_parameters_at (length l.fn.tokens - l.counter) l.most (map parameter_view l.list.items) l.next ≡ parameters_at l.most l.fn.tokens;
  height : l.height ≡ parameters_height (map parameter_view l.list.items);
  limit : l.height ≤ l.most;
}
