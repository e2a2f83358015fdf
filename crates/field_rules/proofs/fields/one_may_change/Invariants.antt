use Rattle.std.proofs.Common.{◌≡◌, drop, map}
use Rattle.std.specs.List.{list_any}
use Rattle.je_core.specs.View.{field_view}
use Rattle.je_types.specs.Views.{program_of}
use Rattle.taming_db.specs.View.{rows}
use Rattle.field_rules.specs.FieldRules.{may_change}
use Rattle.field_rules.proofs.fields.one_may_change.Given as goal

abbrev pub invariant-loop-field : goal.invariant-loop-field
invariant-loop-field l = list_any (may_change (program_of l.typed) (rows l.taming)) (map field_view (drop l.field-index l.fields)) ≡ list_any (may_change (program_of l.typed) (rows l.taming)) (map field_view l.fields)
