use Rattle.std.proofs.Common.{◌≡◌, map, take}
use Rattle.std.specs.Vec.{vec_len}
use Rattle.type_decl.proofs.whole.captured_counts.Given as goal

abbrev pub invariant-loop-locals : goal.invariant-loop-locals
invariant-loop-locals l = l.counts.items ≡ map vec_len (take l.locals-index l.captured)
