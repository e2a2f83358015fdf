use Rattle.std.proofs.Common.{◌≡◌, ◌++◌, Some}
use Rattle.je_core.specs.View.{program_view}
use Rattle.je_classes.specs.Slots.{fields_upwards, slot_fields}
use Rattle.machine_parts.specs.way.Slots.{fields_along}
use Rattle.machine_parts.proofs.class.upwards.Given as goal

abbrev pub invariant-loop-left : goal.invariant-loop-left
invariant-loop-left l = fields_upwards (program_view l.program) l.left l.above ++ fields_along (program_view l.program) l.path.items ≡ slot_fields (program_view l.program) (Some l.fn.class)

abbrev pub decreases-loop-left : goal.decreases-loop-left
decreases-loop-left l = l.left
