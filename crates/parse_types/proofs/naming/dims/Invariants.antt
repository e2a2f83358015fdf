use Rattle.std.proofs.Common.{◌≡◌, ◌-◌, ◌≤◌, length}
use Rattle.parse_laws.specs.way.Types.{dims_at, more_dims_at}
use Rattle.parse_types.proofs.naming.dims.Given as goal

abbrev pub invariant-loop : goal.invariant-loop
invariant-loop l = record {
  same : more_dims_at (length l.fn.tokens - l.counter) l.count l.whole l.rest ≡ dims_at l.fn.span l.fn.tokens;
  few : l.count ≤ l.counter;
}
