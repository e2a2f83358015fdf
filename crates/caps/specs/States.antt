-- What the devices keep.
use Rattle.std.specs.Prelude.{ℕ, ℤ, List}
use Rattle.caps.specs.declared.store.Pair.{Pair}

-- a console: all texts that were printed, in order; a cell: its number; a clock: its time and its step; an inbox: the texts that
-- wait; a store: its pairs, in the order in which their keys first came
pub data State : Type 0 where
  console : List (List ℕ) → State
  cell : ℤ → State
  clock : ℤ → ℤ → State
  inbox : List (List ℕ) → State
  store : List Pair → State
