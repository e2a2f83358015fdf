use Rattle.std.proofs.Common.{sym, ap, ◌∙◌}
use Rattle.je_core.specs.View.{class_view, program_view}
use Rattle.class_tables.specs.way.Slots.{known_above}
use Rattle.class_tables.proofs.Slots.{first-is}
use Rattle.class_tables.proofs.table.FieldTable.first_slot.Goals as goal

pub returns-in-Some : goal.returns-in-Some
returns-in-Some c =
    let p = program_view c.args.program.now in
    let k = class_view c.in-Some.own.now in
    c.known_above.ensures ∙ ap (λ ts. known_above ts k.superclass) c.deref.ensures.value ∙ first-is p c.args.self.now c.requires c.args.class k (sym c.in-Some.ensures)
