use Rattle.std.proofs.Common.{List, subst}
use Rattle.je_core.specs.declared.types.ClassId.{ClassId}
use Rattle.je_core.specs.View.{program_view}
use Rattle.class_tables.specs.way.Slots.{AreTotals}
use Rattle.class_tables.proofs.Slots.{all-known}
use Rattle.class_tables.proofs.table.FieldTable.of.Goals as goal

pub returns : goal.returns
returns c = record {
  few = c.requires.few;
  totals = all-known (program_view c.args.program.now) c.in_ok-order.order.items c.in_ok-totals.totals.items c.in_ok-order.ensures
      (subst (λ (order : List ClassId). AreTotals (program_view c.args.program.now) order c.in_ok-totals.totals.items) c.deref.ensures.value c.in_ok-totals.ensures);
  before = c.in_ok-before.ensures;
  statics = c.in_ok-statics.ensures;
}
