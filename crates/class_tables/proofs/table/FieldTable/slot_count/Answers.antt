use Rattle.std.proofs.Common.{ap, ◌∙◌, Some}
use Rattle.class_tables.specs.way.Slots.{known_above}
use Rattle.class_tables.proofs.table.FieldTable.slot_count.Goals as goal

pub returns : goal.returns
returns c = c.known_above.ensures ∙ ap (λ ts. known_above ts (Some c.args.class)) c.deref.ensures.value ∙ c.requires.totals c.args.class
