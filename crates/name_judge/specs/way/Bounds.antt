-- Where bounds lead, by a list of the variables that they are.
use Rattle.std.specs.Prelude.{ℕ, zero, suc, Bool, false, ◌||◌, List, map, Option, Some, None, slice_get, nat_eq}
use Rattle.je_ast.specs.Types.{TypeParameter}
use Rattle.je_scopes.specs.Source.{Source}
use Rattle.je_scopes.specs.Faults.{variable_of_bound}

abbrev pub bound_variable : Source → ℕ → TypeParameter → Option ℕ
bound_variable p c q = variable_of_bound p c q.bound

-- the variables that the bounds of type parameters are
abbrev pub bound_variables : Source → ℕ → List TypeParameter → List (Option ℕ)
bound_variables p c qs = map (bound_variable p c) qs

abbrev pub or_none : Option (Option ℕ) → Option ℕ
or_none None = None
or_none (Some k) = k

abbrev pub next_of : List (Option ℕ) → ℕ → Option ℕ
next_of next at = or_none (slice_get next at)

-- whether these lead from one variable to another in so many steps at most
abbrev pub leads : List (Option ℕ) → ℕ → Option ℕ → ℕ → Bool
leads next n None at = false
leads next zero (Some k) at = nat_eq k at
leads next (suc n) (Some k) at = nat_eq k at || leads next n (next_of next k) at
