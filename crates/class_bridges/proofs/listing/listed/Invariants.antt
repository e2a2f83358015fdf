use Rattle.std.proofs.Common.{◌≡◌, ◌++◌, map}
use Rattle.class_bridges.specs.way.Found.{bridge_of}
use Rattle.class_bridges.proofs.listing.listed.Given as goal

abbrev pub invariant-loop-method : goal.invariant-loop-method
invariant-loop-method l = l.bridges.items ++ map bridge_of l.method-iterator ≡ map bridge_of l.found.entries
