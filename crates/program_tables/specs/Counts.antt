-- Classes with hidden fields in front, and without as many as there are of these.
use Rattle.std.specs.Prelude.{ℕ, suc, List, [], ◌∷◌, ◌++◌, drop, slice_index}
use Rattle.je_scopes.specs.Source.{Source}
use Rattle.declarations.specs.Declarations.{DeclaredClass}
use Rattle.class_typing.specs.Programs.{CapturedLocal, hidden_fields}

abbrev pub behind_hidden : Source → (ℕ → List CapturedLocal) → ℕ → DeclaredClass → DeclaredClass
behind_hidden source captured c d = record d { fields = hidden_fields source captured c ++ d.fields }

-- so many of its first fields
abbrev pub without : ℕ → DeclaredClass → DeclaredClass
without n d = record d { fields = drop n d.fields }

-- as many as are listed by number, of classes of which the first has this one
abbrev pub without_first : List ℕ → ℕ → List DeclaredClass → List DeclaredClass
without_first counts c [] = []
without_first counts c (d ∷ ds) = without (slice_index counts c) d ∷ without_first counts (suc c) ds
