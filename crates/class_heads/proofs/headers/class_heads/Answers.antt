use Rattle.std.proofs.Common.{arith}
use Rattle.class_heads.specs.View.{classes_of}
use Rattle.class_heads.proofs.Rounds.{one-more}
use Rattle.class_heads.proofs.headers.class_heads.Goals as goal

pub loop-at-preserved : goal.loop-at-preserved
loop-at-preserved c = one-more (classes_of c.args.classes) c.loop-at.at _ _ _ (omega (arith, c.loop-at-test.true, c.len-at-end.ensures)) c.loop-at.invariant c.in_ok-push_head.ensures
