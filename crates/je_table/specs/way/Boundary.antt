-- What a search by halves finds in a table: where the rows before what is looked for end.
use Rattle.std.specs.Prelude.{ℕ, ◌≤◌, List, length, IsTrue, IsFalse}
use Rattle.std.specs.List.{AllWithin}
use Rattle.std.specs.Ordering.{is_lt}
use Rattle.std.specs.declared.cmp.Ordering.{Ordering}

-- i rows are before what is looked for, and the others aren't; `order` compares a row with what is looked for
pub record IsBoundary {X : Type 0} (order : X → Ordering) (rows : List X) (i : ℕ) : Type 0 where
  pub within : i ≤ length rows
  pub before : AllWithin (λ row. IsTrue (is_lt (order row))) rows 0 i
  pub behind : AllWithin (λ row. IsFalse (is_lt (order row))) rows i (length rows)
