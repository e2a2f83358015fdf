-- The classes that are come by from one, each once, where ways lead on from each as a function says.
use Rattle.std.specs.Prelude.{ℕ, zero, suc, List, [], slice_get, Option, Some, None}
use Rattle.je_core.specs.declared.types.ClassId.{ClassId}
use Rattle.je_classes.specs.way.Reaching.{with_reached, with_all}

abbrev pub reached_at : (List ClassId → List ClassId) → (ClassId → List ClassId) → ℕ → List ClassId → Option ClassId → List ClassId
reached_at further next count reached None = reached
reached_at further next count reached (Some c) = further (with_all count reached (next c))

-- from a place of the list on, in so many steps at most, of so many classes
unfoldable pub reached_from : (ClassId → List ClassId) → ℕ → ℕ → ℕ → List ClassId → List ClassId
reached_from next count zero at reached = reached
reached_from next count (suc left) at reached = reached_at (reached_from next count left (suc at)) next count reached (slice_get reached at)

abbrev pub reached_by : (ClassId → List ClassId) → ℕ → ClassId → List ClassId
reached_by next count class = reached_from next count count 0 (with_reached count [] class)
