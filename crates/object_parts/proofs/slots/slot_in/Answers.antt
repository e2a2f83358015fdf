use Rattle.object_parts.proofs.Fields.{slot_found, no_slot}
use Rattle.object_parts.proofs.slots.slot_in.Goals as goal

pub returns-then-field : goal.returns-then-field
returns-then-field c =
    let found = c.in-Some.ensures.lookup in
    no_slot c.args.fields.now c.args.at c.in-Some.field.now c.args.before found.3.0 found.1 c.if-field.true

pub returns-else-field : goal.returns-else-field
returns-else-field c =
    let found = c.in-Some.ensures.lookup in
    slot_found c.args.fields.now c.args.at c.in-Some.field.now c.args.before c.slots_for.result found.3.0 found.1 c.if-field.false c.slots_for.ensures
