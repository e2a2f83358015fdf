use Rattle.std.proofs.Common.{◌≡◌, ℕ, ◌<◌, length, take, Some}
use Rattle.std.specs.List.{count_by}
use Rattle.std.specs.Prelude.{slice_get}
use Rattle.je_core.specs.View.{program_view}
use Rattle.je_classes.specs.Slots.{is_instance}
use Rattle.class_tables.specs.way.Slots.{fields_at, list_at}
use Rattle.class_tables.proofs.fields.before.Given as goal

abbrev pub invariant-loop-at : goal.invariant-loop-at
invariant-loop-at l = (length l.before.items ≡ l.at)
    × ((i at : ℕ) → i < l.at → at < length (fields_at (slice_get (program_view l.program).classes i)) →
    list_at (slice_get l.before.items i) at ≡ Some (count_by is_instance (take at (fields_at (slice_get (program_view l.program).classes i)))))
