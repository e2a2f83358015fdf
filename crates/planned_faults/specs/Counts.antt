-- Counts of faults: numbers of 64 bits that stay at their greatest value once they are there.
use Rattle.std.specs.Prelude.{ℕ, ◌+◌, ◌-◌, ◌^◌, ◌<◌, ◌≤◌, min}

-- the count rose in a call: it is greater than before, or stands at its greatest value, where no rise can be seen
abbrev pub Rose : ℕ → ℕ → Type 0
Rose before now = min (before + 1) (2 ^ 64 - 1) ≤ now

-- the count is greater than before
abbrev pub Grew : ℕ → ℕ → Type 0
Grew before now = before < now
