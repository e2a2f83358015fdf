use Rattle.std.proofs.Common.{◌≡◌, ◌≤◌, ◌+◌, ℕ, drop, map}
use Rattle.std.specs.Prelude.{cond, count_by, fold}
use Rattle.je_core.specs.Core.{CoreField}
use Rattle.je_core.specs.View.{field_view}
use Rattle.je_classes.specs.Statics.{is_static}
use Rattle.machine_parts.proofs.variable.static_count.Given as goal

abbrev pub invariant-loop-field : goal.invariant-loop-field
invariant-loop-field l = (fold (λ (a : ℕ) (f : CoreField). a + cond f.is_static 1 0) l.count (map field_view (drop l.field-index l.fields)) ≡ count_by is_static (map field_view l.fields)) × (l.count ≤ l.field-index)
