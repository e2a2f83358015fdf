-- Types in a row, there and back.
use Rattle.std.proofs.Common.{◌≡◌, List, [], ◌∷◌, refl, ap}
use Rattle.je_ast.specs.Types.{TypeName, type_names}
use Rattle.je_scopes.specs.Headers.{listed}

pub listed_names : (ts : List TypeName) → listed (type_names ts) ≡ ts
listed_names [] = refl
listed_names (t ∷ ts) = ap (λ (x : List TypeName). t ∷ x) (listed_names ts)
