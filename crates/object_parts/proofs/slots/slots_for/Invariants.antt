use Rattle.std.proofs.Common.{◌≡◌, ◌≤◌, ◌+◌, ℕ, drop, map}
use Rattle.std.specs.Prelude.{cond, count_by, fold}
use Rattle.je_core.specs.Core.{CoreField}
use Rattle.je_core.specs.View.{field_view}
use Rattle.je_classes.specs.Slots.{is_instance}
use Rattle.object_parts.proofs.slots.slots_for.Given as goal

abbrev pub invariant-loop-field : goal.invariant-loop-field
invariant-loop-field l = (fold (λ (a : ℕ) (f : CoreField). a + cond (is_instance f) 1 0) l.slots (map field_view (drop l.field-index l.fields)) ≡ count_by is_instance (map field_view l.fields)) × (l.slots ≤ l.field-index)
