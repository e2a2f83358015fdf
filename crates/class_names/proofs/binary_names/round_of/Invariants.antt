use Rattle.std.proofs.Common.{◌≡◌, ◌++◌, ◌-◌, length}
use Rattle.je_core.specs.View.{program_view}
use Rattle.class_names.specs.BinaryNames.{round_within}
use Rattle.class_names.proofs.binary_names.round_of.Given as goal

abbrev pub invariant-out : goal.invariant-out
invariant-out l = l.round.items ++ round_within (program_view l.program) (length (program_view l.program).classes - l.counter) l.next ≡
    round_within (program_view l.program) (length (program_view l.program).classes) l.fn.class
