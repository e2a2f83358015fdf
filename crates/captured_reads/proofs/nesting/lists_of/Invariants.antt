use Rattle.std.proofs.Common.{◌≡◌, length, map}
use Rattle.je_core.specs.View.{class_view}
use Rattle.captured_reads.specs.way.Filling.{AreFilled}
use Rattle.captured_reads.proofs.nesting.lists_of.Given as goal

abbrev pub invariant-loop-number : goal.invariant-loop-number
invariant-loop-number l = (length l.lists.items ≡ length l.program.classes.items) × AreFilled (map class_view l.program.classes.items) l.number l.lists.items
