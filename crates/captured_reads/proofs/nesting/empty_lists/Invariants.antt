use Rattle.std.proofs.Common.{◌≡◌, length}
use Rattle.captured_reads.specs.way.Filling.{AreEmpty}
use Rattle.captured_reads.proofs.nesting.empty_lists.Given as goal

abbrev pub invariant-loop : goal.invariant-loop
invariant-loop l = (length l.lists.items ≡ l.counter) × AreEmpty l.lists.items
