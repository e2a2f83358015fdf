use Rattle.std.proofs.Common.{◌≡◌, drop}
use Rattle.reachability.specs.Jumps.{any_by}
use Rattle.reachability.proofs.jumps.any_by.Given as goal

abbrev pub invariant-loop-one : goal.invariant-loop-one
invariant-loop-one l = any_by (drop l.one-index l.ways) l.way ≡ any_by l.ways l.way
