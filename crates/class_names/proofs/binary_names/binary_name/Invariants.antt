use Rattle.std.proofs.Common.{◌≡◌, ◌++◌, length}
use Rattle.je_core.specs.View.{program_view}
use Rattle.class_names.specs.BinaryNames.{binary_name}
use Rattle.class_names.proofs.Joining.{pieces}
use Rattle.class_names.proofs.binary_names.binary_name.Given as goal

abbrev pub invariant-loop-inner : goal.invariant-loop-inner
invariant-loop-inner l = l.name.items ++ pieces (program_view l.program) l.names l.round.items ≡ binary_name (program_view l.program) l.names l.fn.class

abbrev pub decreases-loop-inner : goal.decreases-loop-inner
decreases-loop-inner l = length l.round.items
