-- The top-level class of a class, by those of the classes before it.
use Rattle.std.specs.Prelude.{ℕ, List, Option, Some, None, slice_index}

-- that of the class directly round it, or else itself
abbrev pub top_beside : List ℕ → Option ℕ → ℕ → ℕ
top_beside tops None at = at
top_beside tops (Some round) at = slice_index tops round
