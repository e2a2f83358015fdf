-- Variables in memory, counted.
use Rattle.std.proofs.Common.{◌≡◌, List, [], ◌∷◌, length, refl, ap}
use Rattle.std.specs.Prelude.{suc}
use Rattle.je_ast.specs.declared.stmt.Var.{Var}
use Rattle.je_ast.specs.View.{variable_views_of}
use Rattle.class_typing.specs.Members.{variable_count}

pub variables_counted : (vs : List Var) → variable_count (variable_views_of vs) ≡ length vs
variables_counted [] = refl
variables_counted (v ∷ vs) = ap suc (variables_counted vs)
