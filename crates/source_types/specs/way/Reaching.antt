-- How the types above one are come by, each once, those that are fewer steps away first.
use Rattle.std.specs.Prelude.{ℕ, zero, suc, List, [], ◌∷◌, ◌++◌, drop, length, if◌then◌else◌}
use Rattle.je_scopes.specs.SourceTypes.{SourceType}
use Rattle.source_types.specs.Heads.{ClassHead}
use Rattle.source_types.specs.Supertypes.{directly_above, has_type, most_steps}

-- one type more, unless it is there
abbrev pub with_type : List SourceType → SourceType → List SourceType
with_type met t = if has_type met t then met else met ++ t ∷ []

abbrev pub with_types : List SourceType → List SourceType → List SourceType
with_types met [] = met
with_types met (t ∷ ts) = with_types (with_type met t) ts

-- those directly above each of these more
abbrev pub gone_up : List ClassHead → List SourceType → List SourceType → List SourceType
gone_up heads met [] = met
gone_up heads met (t ∷ ts) = gone_up heads (with_types met (directly_above heads t)) ts

-- so many steps more, where only those from a place on lead further
abbrev pub climbed : List ClassHead → ℕ → List SourceType → ℕ → List SourceType
climbed heads zero met from = met
climbed heads (suc steps) met from = climbed heads steps (gone_up heads met (drop from met)) (length met)

-- all that are come by from a type
unfoldable pub all_met : List ClassHead → SourceType → List SourceType
all_met heads t = climbed heads (most_steps heads) (t ∷ []) 0
