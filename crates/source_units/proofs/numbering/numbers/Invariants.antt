use Rattle.std.proofs.Common.{◌+◌, ◌≤◌, length}
use Rattle.source_units.proofs.Interning.{IsNumbering}
use Rattle.source_units.proofs.numbering.numbers.Given as goal

abbrev pub invariant-loop-at : goal.invariant-loop-at
invariant-loop-at l = IsNumbering l.initial.names l.own l.names l.at l.numbers.items × (length l.names ≤ length l.initial.names + l.at)
