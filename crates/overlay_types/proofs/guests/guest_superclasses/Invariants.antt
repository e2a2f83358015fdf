use Rattle.std.proofs.Common.{◌≡◌, ◌++◌}
use Rattle.je_core.specs.View.{program_view, class_view}
use Rattle.overlay_types.specs.Guests.{guests_upwards, guest_superclasses}
use Rattle.overlay_types.proofs.guests.guest_superclasses.Given as goal

abbrev pub invariant-loop-left : goal.invariant-loop-left
invariant-loop-left l = l.superclasses.items ++ guests_upwards (program_view l.program) l.left l.above ≡ guest_superclasses (program_view l.program) (class_view l.fn.class)

abbrev pub decreases-loop-left : goal.decreases-loop-left
decreases-loop-left l = l.left
