use Rattle.std.proofs.Common.{length}
use Rattle.je_core.specs.declared.types.ClassId.{ClassId}
use Rattle.je_core.specs.View.{program_view}
use Rattle.je_classes.specs.Members.{In}
use Rattle.class_tables.specs.way.Order.{IsOrder, IsPath}
use Rattle.class_tables.proofs.order.descend.Given as goal

abbrev pub invariant-loop-next : goal.invariant-loop-next
invariant-loop-next l = IsOrder (program_view l.program) l.order
    × IsPath (program_view l.program) l.order l.fn.class l.path.items
    × ((c : ClassId) → In l.initial.order.classes.items c → In l.order.classes.items c)

abbrev pub decreases-loop-next : goal.decreases-loop-next
decreases-loop-next l = length l.path.items
