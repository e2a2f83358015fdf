use Rattle.std.proofs.Common.{◌≡◌, ◌+◌, Some, sym, ap, ◌∙◌, arith}
use Rattle.je_core.specs.View.{class_view, field_view, program_view}
use Rattle.class_tables.specs.way.Slots.{known_above}
use Rattle.class_tables.proofs.Slots.{slot-fits, slot-is}
use Rattle.class_tables.proofs.table.FieldTable.slot.Goals as goal

pub overflow_add-result : goal.overflow_add-result
overflow_add-result c =
    let p = program_view c.args.program.now in
    let k = class_view c.in-Some.own.now in
    let f = field_view c.in-Some-field_at.field.now in
    let x = slot-fits p c.args.self.now c.requires c.args.class c.args.at f (sym c.in-Some-field_at.ensures) k (sym c.in-Some.ensures) in
    let y : c.known_above.result ≡ known_above c.args.self.now.totals.items k.superclass = c.known_above.ensures ∙ ap (λ ts. known_above ts k.superclass) c.deref.ensures.value in
    omega (arith, x, y, c.count_before.ensures)

pub returns : goal.returns
returns c =
    let p = program_view c.args.program.now in
    let k = class_view c.in-Some.own.now in
    let f = field_view c.in-Some-field_at.field.now in
    let y : c.known_above.result ≡ known_above c.args.self.now.totals.items k.superclass = c.known_above.ensures ∙ ap (λ ts. known_above ts k.superclass) c.deref.ensures.value in
    (λ i. Some (y i + c.count_before.ensures i)) ∙ slot-is p c.args.self.now c.requires c.args.class c.args.at f (sym c.in-Some-field_at.ensures) k (sym c.in-Some.ensures) c.if-field.false
