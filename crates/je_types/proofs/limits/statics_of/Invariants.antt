use Rattle.std.proofs.Common.{◌≡◌, ◌≤◌, ◌+◌, drop, map}
use Rattle.std.specs.List.{count_by}
use Rattle.je_core.specs.Core.{CoreField}
use Rattle.je_core.specs.View.{field_view}
use Rattle.je_types.proofs.limits.statics_of.Given as goal

abbrev pub invariant-loop-field : goal.invariant-loop-field
invariant-loop-field l = (l.count + count_by (λ (f : CoreField). f.is_static) (map field_view (drop l.field-index l.class.fields.items)) ≡ count_by (λ (f : CoreField). f.is_static) (map field_view l.class.fields.items))
    × (l.count ≤ l.field-index)
