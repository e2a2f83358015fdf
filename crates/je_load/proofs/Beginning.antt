-- How many objects and references there are at the beginning of a load.
use Rattle.std.proofs.Common.{◌≡◌, ℕ, suc, List, [], ◌∷◌, length, refl, ap}
use Rattle.je_core.specs.declared.types.ClassId.{ClassId}
use Rattle.je_load.specs.Loading.{capabilities, text_references}

pub length-capabilities : (device : ℕ) (interfaces : List ClassId) → length (capabilities device interfaces) ≡ length interfaces
length-capabilities device [] = refl
length-capabilities device (interface ∷ interfaces) = ap suc (length-capabilities (suc device) interfaces)

pub length-text_references : (number : ℕ) (texts : List (List ℕ)) → length (text_references number texts) ≡ length texts
length-text_references number [] = refl
length-text_references number (text ∷ texts) = ap suc (length-text_references (suc number) texts)
