use Rattle.std.proofs.Common.{◌≡◌, drop}
use Rattle.std.specs.List.{list_any}
use Rattle.je_types.specs.Views.{program_of}
use Rattle.taming_db.specs.View.{rows}
use Rattle.je_classes.specs.Hierarchy.{class_at}
use Rattle.overlay_types.specs.Guests.{passes}
use Rattle.field_rules.specs.FieldRules.{one_may_change}
use Rattle.field_rules.proofs.fields.may_change_above.Given as goal

abbrev pub invariant-loop-superclass : goal.invariant-loop-superclass
invariant-loop-superclass l = list_any (λ s. passes (one_may_change (program_of l.typed) (rows l.taming)) (class_at (program_of l.typed) s)) (drop l.superclass-index l.superclass-items) ≡ list_any (λ s. passes (one_may_change (program_of l.typed) (rows l.taming)) (class_at (program_of l.typed) s)) l.superclass-items
