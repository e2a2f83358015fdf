-- The names of several files in one list, each once.
use Rattle.std.specs.Prelude.{◌≡◌, ℕ, List, [], ◌∷◌, Some}
use Rattle.std.specs.List.{AllZip}
use Rattle.je_base.specs.Names.{interned, number_of}
use Rattle.je_base.specs.declared.span.NameId.{NameId}
use Rattle.source_units.specs.Files.{FileTokens}

-- the first texts, and then those of the second list that have no number yet, in order
abbrev pub all_interned : List (List ℕ) → List (List ℕ) → List (List ℕ)
all_interned names [] = names
all_interned names (text ∷ texts) = all_interned (interned names text) texts

-- the texts, and then the names of the files, in order
abbrev pub names_with : List (List ℕ) → List FileTokens → List (List ℕ)
names_with names [] = names
names_with names (f ∷ fs) = names_with (all_interned names f.names) fs

-- The text has this number among the names.
abbrev pub HasNumber : List (List ℕ) → List ℕ → NameId → Type 0
HasNumber names text number = number_of names text ≡ Some number

-- These are the numbers of the texts, in order.
abbrev pub AreNumbers : List (List ℕ) → List (List ℕ) → List NameId → Type 0
AreNumbers names texts numbers = AllZip (HasNumber names) texts numbers
