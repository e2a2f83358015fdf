use Rattle.std.proofs.Common.{◌≡◌, ◌-◌, Some, length}
use Rattle.parse_laws.specs.way.Types.{name_at, parts_at}
use Rattle.parse_types.proofs.naming.name.Given as goal

abbrev pub invariant-loop : goal.invariant-loop
invariant-loop l = Some (parts_at (length l.fn.tokens - l.counter) l.parts.items l.span l.rest) ≡ name_at l.fn.tokens
