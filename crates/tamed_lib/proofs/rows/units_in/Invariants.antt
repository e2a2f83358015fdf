use Rattle.std.proofs.Common.{◌≡◌, ◌-◌}
use Rattle.tamed_lib.specs.way.Elements.{in_front, slots_read, units_among}
use Rattle.tamed_lib.proofs.rows.units_in.Given as goal

abbrev pub invariant-loop-at : goal.invariant-loop-at
invariant-loop-at l = in_front l.units (units_among (slots_read l.heap.world.objects l.array (l.fn.count - l.at) l.at)) ≡ units_among (slots_read l.heap.world.objects l.array l.fn.count 0)
