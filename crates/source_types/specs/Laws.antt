-- What the test for subtypes decides.
use Rattle.std.specs.Prelude.{◌≡◌, ◌↔◌, ℕ, zero, ◌<◌, ◌≤◌, Bool, true, false, List, []}
use Rattle.std.specs.List.{Contains}
use Rattle.je_scopes.specs.SourceTypes.{SourceType, of_class, of_variable}
use Rattle.source_types.specs.Heads.{ClassHead, object_type}
use Rattle.source_types.specs.Supertypes.{directly_above, most_steps}
use Rattle.source_types.specs.Subtypes.{Subtype, is_subtype}

abbrev pub is_class_or_variable : SourceType → Bool
is_class_or_variable (of_class c args zero) = true
is_class_or_variable (of_variable c at zero) = true
is_class_or_variable _ = false

-- No type is above itself: each has a depth, and those directly above it, which are classes and type variables, have smaller
-- ones. Nothing is above Object.
pub record IsAcyclic (heads : List ClassHead) : Type 0 where
  pub depth : SourceType → ℕ
  pub falls : (s t : SourceType) → Contains (directly_above heads s) t → depth t < depth s
  pub within : (t : SourceType) → depth t ≤ most_steps heads
  pub named : (s t : SourceType) → Contains (directly_above heads s) t → is_class_or_variable t ≡ true
  pub top : directly_above heads object_type ≡ []

abbrev pub SubtypesAreDecided : Type 0
SubtypesAreDecided = (heads : List ClassHead) → IsAcyclic heads → (s t : SourceType) →
    (is_subtype heads s t ≡ true) ↔ Subtype heads s t
