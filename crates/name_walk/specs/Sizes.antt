-- The size of all units together.
use Rattle.std.specs.Prelude.{ℕ, ◌+◌, List, [], ◌∷◌}
use Rattle.je_ast.specs.Trees.{CompilationUnit}
use Rattle.je_ast.specs.Size.{unit_size}

abbrev pub units_size : List CompilationUnit → ℕ
units_size [] = 0
units_size (u ∷ us) = unit_size u.declarations + units_size us
