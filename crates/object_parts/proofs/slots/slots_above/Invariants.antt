use Rattle.std.proofs.Common.{◌≡◌, ◌≤◌, ◌+◌, ◌*◌, ◌^◌, length}
use Rattle.je_core.specs.View.{program_view}
use Rattle.je_classes.specs.Slots.{fields_upwards, slot_fields}
use Rattle.object_parts.proofs.slots.slots_above.Given as goal

abbrev pub invariant-loop-left : goal.invariant-loop-left
invariant-loop-left l = (l.count + length (fields_upwards (program_view l.program) l.left l.above) ≡ length (slot_fields (program_view l.program) l.fn.superclass))
    × (l.count + l.left * 2 ^ 63 ≤ length (program_view l.program).classes * 2 ^ 63)

abbrev pub decreases-loop-left : goal.decreases-loop-left
decreases-loop-left l = l.left
