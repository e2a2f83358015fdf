use Rattle.std.proofs.Common.{◌+◌, ◌-◌, Some, sym, ◌∙◌, arith}
use Rattle.je_core.specs.View.{field_view, program_view}
use Rattle.class_tables.proofs.Slots.{rest-fits, place-fits, place-is}
use Rattle.class_tables.proofs.table.FieldTable.static_place.Goals as goal

pub overflow_sub-result : goal.overflow_sub-result
overflow_sub-result c =
    let x = rest-fits (program_view c.args.program.now) c.args.self.now c.requires c.args.class c.args.at (field_view c.in-Some.field.now) (sym c.in-Some.ensures) in
    omega (arith, x, c.count_before.ensures)

pub overflow_add-result : goal.overflow_add-result
overflow_add-result c =
    let x = place-fits (program_view c.args.program.now) c.args.self.now c.requires c.args.class c.args.at (field_view c.in-Some.field.now) (sym c.in-Some.ensures) in
    omega (arith, x, c.count_before.ensures, c.statics_before.ensures)

pub returns : goal.returns
returns c = (λ i. Some (c.statics_before.ensures i + (c.args.at - c.count_before.ensures i)))
    ∙ place-is (program_view c.args.program.now) c.args.self.now c.requires c.args.class c.args.at (field_view c.in-Some.field.now) (sym c.in-Some.ensures) c.if-not-field.false
