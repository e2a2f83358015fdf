use Rattle.std.proofs.Common.{refl, arith}
use Rattle.name_sites.proofs.Implicit.{implicit_more}
use Rattle.name_sites.proofs.library.implicit_classes.Goals as goal

pub loop-at-preserved : goal.loop-at-preserved
loop-at-preserved c = implicit_more c.args.names.now c.loop-at.at _ c.text_of.result.now c.in_ok-class.class c.loop-at.classes.items _ (omega (arith, c.loop-at-test.true, c.len-at-end.ensures.count)) refl c.text_of.ensures c.in_ok-class.ensures c.loop-at.invariant c.in_ok-push.ensures.items
