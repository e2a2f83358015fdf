use Rattle.std.proofs.Common.{◌≡◌, ◌++◌, drop, map, filter}
use Rattle.je_core.specs.View.{field_view}
use Rattle.je_classes.specs.Slots.{is_instance}
use Rattle.machine_parts.specs.way.Slots.{defaults}
use Rattle.machine_parts.proofs.class.push_defaults.Given as goal

abbrev pub invariant-loop-field : goal.invariant-loop-field
invariant-loop-field l = l.slots ++ defaults (filter is_instance (map field_view (drop l.field-index l.fields))) ≡ l.fn.slots ++ defaults (filter is_instance (map field_view l.fields))
