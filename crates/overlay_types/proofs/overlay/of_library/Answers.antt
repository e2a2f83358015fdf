use Rattle.std.proofs.Common.{◌≡◌, ℕ, Option, sym, ap}
use Rattle.std.specs.Prelude.{unwrap_or}
use Rattle.je_core.specs.declared.types.ClassId.{ClassId}
use Rattle.je_classes.specs.Hierarchy.{library_class}
use Rattle.overlay_types.proofs.overlay.of_library.Goals as goal

numbered : ℕ → ClassId
numbered n = record { 0 = n }

pub returns : goal.returns
unfolding library_class numbered
returns c = ap numbered (sym (ap (λ (o : Option ℕ). unwrap_or o 0) c.number.ensures))
