use Rattle.std.proofs.Common.{◌≡◌, ℕ, ◌+◌, ◌-◌, length}
use Rattle.member_forms.specs.Calls.{called_in}
use Rattle.member_forms.proofs.cycles.reach.Given as goal

abbrev pub invariant-loop-table : goal.invariant-loop-table
invariant-loop-table l = (n : ℕ) → called_in l.table.items n ≡ called_in l.initial.table.items n

abbrev pub decreases-loop-table : goal.decreases-loop-table
decreases-loop-table l = l.place + 1 - length l.table.items
