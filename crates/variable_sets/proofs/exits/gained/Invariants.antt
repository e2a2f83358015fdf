use Rattle.variable_sets.specs.SetView.{set_view}
use Rattle.variable_sets.specs.Sets.{either}
use Rattle.variable_sets.specs.way.Lists.{Each}
use Rattle.variable_sets.proofs.exits.gained.Given as goal

abbrev pub invariant-loop-exit : goal.invariant-loop-exit
invariant-loop-exit l = Each (λ s. either s (set_view l.gain)) l.yielded l.more.items
