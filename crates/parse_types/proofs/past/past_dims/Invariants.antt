use Rattle.std.proofs.Common.{◌≡◌, ◌-◌, length}
use Rattle.parse_laws.specs.way.Types.{past_dims_at}
use Rattle.parse_types.specs.way.LookPast.{past_pairs_at}
use Rattle.parse_types.proofs.past.past_dims.Given as goal

abbrev pub invariant-loop : goal.invariant-loop
invariant-loop l = past_pairs_at (length l.fn.tokens - l.counter) l.rest ≡ past_dims_at l.fn.tokens
