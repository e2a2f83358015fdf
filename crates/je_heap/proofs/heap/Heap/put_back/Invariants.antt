use Rattle.std.proofs.Common.{◌≡◌, length, None}
use Rattle.je_heap.specs.Turns.{all_undone}
use Rattle.je_heap.proofs.heap.Heap.put_back.Given as goal

abbrev pub invariant-loop-saved : goal.invariant-loop-saved
invariant-loop-saved l = (all_undone l.self.world l.left.journal ≡ all_undone l.fn.self.world l.fn.turn.journal)
    × (l.left.made_before ≡ l.fn.turn.made_before) × (l.self.turn ≡ None) × (l.self.last ≡ l.fn.self.last)

abbrev pub decreases-loop-saved : goal.decreases-loop-saved
decreases-loop-saved l = length l.left.journal
