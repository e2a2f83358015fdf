use Rattle.std.proofs.Common.{refl}
use Rattle.je_classes.specs.Hierarchy.{library_class}
use Rattle.library_declarations.proofs.types.class_id.Goals as goal

pub returns : goal.returns
unfolding library_class
returns c = rw c.number.ensures refl
