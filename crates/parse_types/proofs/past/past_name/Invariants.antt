use Rattle.std.proofs.Common.{◌≡◌, ◌-◌, Some, length}
use Rattle.parse_laws.specs.way.Types.{past_name_at}
use Rattle.parse_types.specs.way.LookPast.{past_parts_at}
use Rattle.parse_types.proofs.past.past_name.Given as goal

abbrev pub invariant-loop : goal.invariant-loop
invariant-loop l = Some (past_parts_at (length l.fn.tokens - l.counter) l.rest) ≡ past_name_at l.fn.tokens
