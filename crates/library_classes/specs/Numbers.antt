-- The number of a word in the names of a program.
use Rattle.std.specs.Prelude.{ℕ, List, unwrap_or}
use Rattle.je_base.specs.declared.span.NameId.{NameId}
use Rattle.je_base.specs.Names.{name_at, number_of}

-- the first one where it has none
abbrev pub number_in : List (List ℕ) → List ℕ → NameId
number_in texts word = unwrap_or (number_of texts word) (name_at 0)
