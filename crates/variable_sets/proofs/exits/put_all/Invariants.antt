use Rattle.std.proofs.Common.{◌≡◌, drop}
use Rattle.variable_sets.specs.SetView.{set_view}
use Rattle.variable_sets.specs.ExitsView.{exits_view}
use Rattle.variable_sets.specs.way.Lists.{putting}
use Rattle.variable_sets.proofs.exits.put_all.Given as goal

abbrev pub invariant-loop-exit : goal.invariant-loop-exit
invariant-loop-exit l = putting (set_view l.gain) (drop l.exit-index l.list) (exits_view l.all) ≡ putting (set_view l.gain) l.list (exits_view l.fn.exits)
