-- Whether types begin with others.
use Rattle.std.specs.Prelude.{Bool, true, false, ◌&&◌, List, [], ◌∷◌}
use Rattle.je_core.specs.declared.types.Ty.{Ty}
use Rattle.je_classes.specs.Subtypes.{same_type}

abbrev pub begin_with : List Ty → List Ty → Bool
begin_with ts [] = true
begin_with [] (u ∷ us) = false
begin_with (t ∷ ts) (u ∷ us) = same_type t u && begin_with ts us
