use Rattle.std.proofs.Common.{◌<◌}
use Rattle.je_core.specs.declared.types.ClassId.{ClassId}
use Rattle.je_core.specs.View.{program_view}
use Rattle.je_classes.specs.Members.{In}
use Rattle.class_tables.specs.way.Order.{IsOrder}
use Rattle.class_tables.proofs.order.in_order.Given as goal

abbrev pub invariant-loop-at : goal.invariant-loop-at
invariant-loop-at l = IsOrder (program_view l.program) l.order
    × ((c : ClassId) → c.0 < l.at → In l.order.classes.items c)
