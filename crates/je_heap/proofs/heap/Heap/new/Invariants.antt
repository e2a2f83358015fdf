use Rattle.std.proofs.Common.{◌≡◌, replicate}
use Rattle.je_core.specs.declared.value.Value.TheVariants.{Null}
use Rattle.je_heap.proofs.heap.Heap.new.Given as goal

abbrev pub invariant-loop-made : goal.invariant-loop-made
invariant-loop-made l = l.values ≡ replicate l._made Null
