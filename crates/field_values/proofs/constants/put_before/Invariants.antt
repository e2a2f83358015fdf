use Rattle.std.proofs.Common.{◌≡◌, ◌++◌, None, replicate}
use Rattle.field_values.proofs.constants.put_before.Given as goal

abbrev pub invariant-loop : goal.invariant-loop
invariant-loop l = l.constants.items ≡ l.initial.constants.items ++ replicate l.counter None
