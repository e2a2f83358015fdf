-- The header of one class, if it is there.
use Rattle.std.specs.Prelude.{ℕ, List, [], ◌∷◌, Option, Some, None}
use Rattle.source_types.specs.Heads.{ClassHead}
use Rattle.declarations.specs.Declarations.{DeclaredClass}
use Rattle.class_heads.specs.Headers.{head_of}

abbrev pub head_if : List DeclaredClass → ℕ → Option DeclaredClass → List ClassHead
head_if classes c None = []
head_if classes c (Some d) = head_of classes c d ∷ []
