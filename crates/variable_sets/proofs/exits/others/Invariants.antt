use Rattle.std.proofs.Common.{◌≡◌}
use Rattle.variable_sets.specs.way.Lists.{others}
use Rattle.variable_sets.proofs.exits.others.Given as goal

abbrev pub invariant-loop-exit : goal.invariant-loop-exit
invariant-loop-exit l = l.rest.items ≡ others l.way l.yielded
