use Rattle.std.proofs.Common.{◌≡◌, ◌≤◌, ◌++◌, length, take}
use Rattle.je_core.specs.View.{program_view}
use Rattle.machine_parts.specs.way.Slots.{fields_along, defaults}
use Rattle.machine_parts.proofs.class.slots_along.Given as goal

abbrev pub invariant-loop-left : goal.invariant-loop-left
invariant-loop-left l = (l.slots ++ defaults (fields_along (program_view l.program) (take l.left l.path)) ≡ defaults (fields_along (program_view l.program) l.path))
    × (l.left ≤ length l.path)

abbrev pub decreases-loop-left : goal.decreases-loop-left
decreases-loop-left l = l.left
