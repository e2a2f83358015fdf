-- The types above a type, by the headers of classes with their type arguments put in, and by the bounds of type variables
-- (JLS 4.10.2).
use Rattle.std.specs.Prelude.{ℕ, zero, suc, ◌+◌, Bool, List, [], ◌∷◌, map, length}
use Rattle.std.specs.List.{flat_map, list_any}
use Rattle.je_scopes.specs.SourceTypes.{SourceType, of_class, of_variable, same_source_type}
use Rattle.source_types.specs.Heads.{ClassHead, supers_of, bound_of, variable_count}
use Rattle.source_types.specs.Substitution.{substituted}

-- whether a type is one of these
abbrev pub has_type : List SourceType → SourceType → Bool
has_type types t = list_any (λ u. same_source_type u t) types

-- those directly above it; an array has none here
abbrev pub directly_above : List ClassHead → SourceType → List SourceType
directly_above heads (of_class c args zero) = map (substituted c args) (supers_of heads c)
directly_above heads (of_variable c at zero) = bound_of heads c at ∷ []
directly_above heads _ = []

-- the type, and those above it in so many steps at most
abbrev pub supertypes_within : List ClassHead → ℕ → SourceType → List SourceType
supertypes_within heads zero t = t ∷ []
supertypes_within heads (suc steps) t = t ∷ flat_map (supertypes_within heads steps) (directly_above heads t)

-- No class and no variable leads back to itself, so a way upwards has no more steps than there are classes and variables.
abbrev pub most_steps : List ClassHead → ℕ
most_steps heads = length heads + variable_count heads

-- the type itself, and all above it but Object, which is above each reference
unfoldable pub supertypes : List ClassHead → SourceType → List SourceType
supertypes heads t = supertypes_within heads (most_steps heads) t
