use Rattle.std.proofs.Common.{◌≡◌, ℕ, ◌<◌, length, Some}
use Rattle.std.specs.Prelude.{slice_get}
use Rattle.je_core.specs.View.{program_view}
use Rattle.je_classes.specs.Statics.{statics_before}
use Rattle.class_tables.proofs.fields.statics.Given as goal

abbrev pub invariant-loop-at : goal.invariant-loop-at
invariant-loop-at l = (length l.places.items ≡ l.at)
    × (l.count ≡ statics_before (program_view l.program) l.at)
    × ((i : ℕ) → i < l.at → slice_get l.places.items i ≡ Some (statics_before (program_view l.program) i))
