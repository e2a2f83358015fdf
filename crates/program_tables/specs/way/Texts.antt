-- Sources by their texts alone.
use Rattle.std.specs.Prelude.{ℕ, List, []}
use Rattle.je_scopes.specs.Source.{Source}

-- one without classes
abbrev pub with_texts : List (List ℕ) → Source
with_texts texts = record { texts = texts; imports = []; sites = [] }
