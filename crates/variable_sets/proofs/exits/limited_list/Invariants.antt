use Rattle.variable_sets.specs.SetView.{set_view}
use Rattle.variable_sets.specs.Sets.{both}
use Rattle.variable_sets.specs.way.Lists.{Each}
use Rattle.variable_sets.proofs.exits.limited_list.Given as goal

abbrev pub invariant-loop-exit : goal.invariant-loop-exit
invariant-loop-exit l = Each (λ s. both s (set_view l.limit)) l.yielded l.rest.items
