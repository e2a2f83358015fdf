use Rattle.std.proofs.Common.{◌≡◌, drop}
use Rattle.std.specs.List.{list_any}
use Rattle.je_types.specs.Views.{program_of}
use Rattle.taming_db.specs.View.{rows}
use Rattle.je_classes.specs.Hierarchy.{class_at}
use Rattle.overlay_types.specs.Guests.{passes}
use Rattle.inner_capture.specs.InnerCapture.{is_in_other}
use Rattle.inner_capture.proofs.enclosing.is_in_other_above.Given as goal

abbrev pub invariant-loop-superclass : goal.invariant-loop-superclass
invariant-loop-superclass l = list_any (λ s. passes (is_in_other (program_of l.typed) (rows l.taming) l.marker) (class_at (program_of l.typed) s)) (drop l.superclass-index l.superclass-items) ≡ list_any (λ s. passes (is_in_other (program_of l.typed) (rows l.taming) l.marker) (class_at (program_of l.typed) s)) l.superclass-items
