use Rattle.std.proofs.Common.{◌≡◌, drop}
use Rattle.variable_sets.specs.Sets.{everything}
use Rattle.variable_sets.specs.SetView.{set_view}
use Rattle.variable_sets.specs.way.Lists.{look}
use Rattle.variable_sets.proofs.exits.before_all.Given as goal

abbrev pub invariant-loop-exit : goal.invariant-loop-exit
invariant-loop-exit l = look (set_view l.set) (drop l.exit-index l.list) l.way ≡ look everything l.list l.way
