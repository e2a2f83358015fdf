use Rattle.std.proofs.Common.{take}
use Rattle.je_core.specs.View.{program_view}
use Rattle.class_tables.specs.way.Slots.{AreTotals}
use Rattle.class_tables.proofs.fields.totals.Given as goal

abbrev pub invariant-loop-class : goal.invariant-loop-class
invariant-loop-class l = AreTotals (program_view l.program) (take l.class-index l.order) l.totals.items
