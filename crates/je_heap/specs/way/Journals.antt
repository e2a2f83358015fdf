-- What is noted, taken from the end of a journal.
use Rattle.std.specs.Prelude.{◌≡◌, [], ◌∷◌, ◌++◌, Option, Some, None}
use Rattle.je_heap.specs.declared.turn.Saved.{Saved}
use Rattle.je_heap.specs.Turns.{Turn}

abbrev pub LeavesLast : Turn → Option Saved → Turn → Type 0
LeavesLast old None new = (old.journal ≡ []) × (new ≡ old)
LeavesLast old (Some saved) new = old ≡ record new { journal = new.journal ++ saved ∷ [] }
