use Rattle.std.proofs.Common.{◌≡◌, ◌-◌, length}
use Rattle.je_core.specs.View.{program_view}
use Rattle.je_classes.specs.way.Reaching.{found_from, found}
use Rattle.je_classes.proofs.reach.is_above.Given as goal

abbrev pub invariant-loop-at : goal.invariant-loop-at
invariant-loop-at l =
    found_from (program_view l.program) l.fn.class (length (program_view l.program).classes - l.at) l.at l.reached.items ≡
    found (program_view l.program) l.fn.own l.fn.class
