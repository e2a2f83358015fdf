use Rattle.std.proofs.Common.{List, map, take, subst, sym, arith}
use Rattle.std.proofs.lemmas.Grind.{common_steps}
use Rattle.body_typing.specs.Bodies.{Met}
use Rattle.body_walks.specs.Seen.{met_seen}
use Rattle.class_places.proofs.Ends.{map-take-more}
use Rattle.class_places.specs.First.{AreFirst}
use Rattle.class_places.proofs.first.Stands.add_all.Goals as goal

pub loop-at-preserved : goal.loop-at-preserved
loop-at-preserved c count h =
    subst (λ (ms : List Met). AreFirst count ms c.add.new.self)
    (sym (map-take-more met_seen c.args.met.now c.loop-at.at c.index-met-at.result c.loop-at-test.true c.index-met-at.is))
    (c.add.ensures count (map met_seen (take c.loop-at.at c.args.met.now)) (grind (arith, common_steps, c.loop-at-test.true)) (c.loop-at.invariant count h))
