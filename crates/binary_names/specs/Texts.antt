-- The texts that are kept, by their numbers.
use Rattle.std.specs.Prelude.{ℕ, List}
use Rattle.binary_names.specs.declared.texts.Texts.{Texts}
use Rattle.binary_names.specs.Steps.{Spells}

unfoldable pub IsText : Texts → ℕ → List ℕ → Type 0
IsText texts n text = Spells texts.steps.keys n text

-- each text keeps its number
unfoldable pub Stays : Texts → Texts → Type 0
Stays old new = (n : ℕ) (text : List ℕ) → IsText old n text → IsText new n text
