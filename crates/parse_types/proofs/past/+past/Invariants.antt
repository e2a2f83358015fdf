use Rattle.std.proofs.Common.{◌≡◌, ◌+◌, ◌-◌, ◌*◌, length}
use Rattle.parse_types.specs.way.LookPast.{past_arguments_at}
use Rattle.parse_types.proofs.past.+past.Given as goal

abbrev pub decreases-past_type : goal.decreases-past_type
decreases-past_type l = l.most * 3

abbrev pub decreases-past_arguments : goal.decreases-past_arguments
decreases-past_arguments l = l.most * 3 + 2

abbrev pub decreases-past_argument : goal.decreases-past_argument
decreases-past_argument l = l.most * 3 + 1

abbrev pub invariant-past_arguments-loop : goal.invariant-past_arguments-loop
invariant-past_arguments-loop l = past_arguments_at l.most (length l.fn.tokens - l.counter) l.next ≡ past_arguments_at l.most (length l.fn.tokens) l.fn.tokens
