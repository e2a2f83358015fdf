use Rattle.std.proofs.Common.{◌≡◌, ℕ, ◌<◌, length, take, map, Some}
use Rattle.std.specs.List.{count_by}
use Rattle.std.specs.Prelude.{slice_get}
use Rattle.je_core.specs.View.{field_view}
use Rattle.je_classes.specs.Slots.{is_instance}
use Rattle.class_tables.proofs.fields.counts.Given as goal

abbrev pub invariant-loop-field : goal.invariant-loop-field
invariant-loop-field l = (length l.counts.items ≡ l.field-index)
    × (l.count ≡ count_by is_instance (take l.field-index (map field_view l.fields)))
    × ((at : ℕ) → at < l.field-index → slice_get l.counts.items at ≡ Some (count_by is_instance (take at (map field_view l.fields))))
