use Rattle.std.proofs.Common.{sym, subst, arith}
use Rattle.std.specs.Prelude.{slice_set}
use Rattle.captured_reads.specs.way.Filling.{HasOneMore}
use Rattle.captured_reads.proofs.Filling.{one_class_more}
use Rattle.captured_reads.proofs.nesting.add_inside.Goals as goal

pub returns-in_ok-push-clause-more : goal.returns-in_ok-push-clause-more
returns-in_ok-push-clause-more c =
    let lists = c.args.lists.now.items in
    let within = c.in-Some.within in
    subst (λ w. HasOneMore w c.args.id lists (slice_set lists within.0 c.push.new.self)) (sym c.in-Some.is)
    (one_class_more lists within c.args.id c.index_mut.result.now c.push.new.self (omega (arith, c.if-at-len.true, c.len.ensures)) c.index_mut.ensures.value c.in_ok-push.ensures.items)
