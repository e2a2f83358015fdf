use Rattle.std.proofs.Common.{◌≡◌, ◌≤◌, ◌+◌, drop, map}
use Rattle.std.specs.List.{count_by}
use Rattle.je_core.specs.View.{field_view}
use Rattle.je_classes.specs.Statics.{is_static}
use Rattle.class_tables.proofs.fields.static_count.Given as goal

abbrev pub invariant-loop-field : goal.invariant-loop-field
invariant-loop-field l = (l.count + count_by is_static (map field_view (drop l.field-index l.fields)) ≡ count_by is_static (map field_view l.fields)) × (l.count ≤ l.field-index)
