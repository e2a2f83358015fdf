use Rattle.std.proofs.Common.{◌≡◌, length, map, take, ap, ◌∙◌, arith}
use Rattle.std.specs.Vec.{vec_len}
use Rattle.std.proofs.lemmas.List.{take_all}
use Rattle.field_values.specs.Values.{count_at}
use Rattle.type_decl.proofs.Beginning.{counted_locals}
use Rattle.type_decl.proofs.whole.captured_counts.Goals as goal

pub returns : goal.returns
returns c =
    ap count_at (c.loop-locals.invariant ∙ ap (map vec_len) (take_all c.loop-locals.locals-index c.args.captured.now (omega (arith, c.loop-locals-test.false))))
    ∙ (λ i. λ d. counted_locals c.args.captured.now d i)
