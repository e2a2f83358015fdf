use Rattle.std.proofs.Common.{◌≡◌, drop, ◌++◌}
use Rattle.reachability.specs.Jumps.{others}
use Rattle.reachability.proofs.jumps.others.Given as goal

-- what is kept, and of what is still to come the others
abbrev pub invariant-loop-one : goal.invariant-loop-one
invariant-loop-one l = l.rest.items ++ others l.way (drop l.one-index l.ways) ≡ others l.way l.ways
