use Rattle.std.proofs.Common.{◌≡◌, ◌-◌}
use Rattle.tamed_lib.specs.way.Elements.{in_front, slots_read}
use Rattle.tamed_lib.proofs.rows.elements.Given as goal

abbrev pub invariant-loop-at : goal.invariant-loop-at
invariant-loop-at l = in_front l.slots (slots_read l.heap.world.objects l.array (l.fn.count - l.at) l.at) ≡ slots_read l.heap.world.objects l.array l.fn.count 0
