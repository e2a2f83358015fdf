use Rattle.std.proofs.Common.{◌≡◌, ◌-◌, map, length}
use Rattle.je_ast.specs.Types.{name_view}
use Rattle.parse_laws.specs.way.Types.{names_at, more_names_at}
use Rattle.parse_types.proofs.naming.names.Given as goal

abbrev pub invariant-loop : goal.invariant-loop
invariant-loop l = more_names_at (length l.fn.tokens - l.counter) (map name_view l.list.items) l.rest ≡ names_at l.fn.tokens
