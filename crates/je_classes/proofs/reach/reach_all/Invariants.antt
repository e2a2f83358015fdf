use Rattle.std.proofs.Common.{◌≡◌, drop}
use Rattle.je_classes.specs.way.Reaching.{with_all}
use Rattle.je_classes.proofs.reach.reach_all.Given as goal

abbrev pub invariant-loop-class : goal.invariant-loop-class
invariant-loop-class l = with_all l.count l.reached.items (drop l.class-index l.classes) ≡ with_all l.count l.fn.reached.items l.classes
