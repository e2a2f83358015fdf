use Rattle.std.proofs.Common.{◌≡◌}
use Rattle.number_maps.specs.way.Nodes.{found}
use Rattle.number_maps.proofs.maps.Maps.get.Given as goal

abbrev pub invariant-loop-left : goal.invariant-loop-left
invariant-loop-left l = found l.self.nodes.items l.left l.at l.rest ≡ found l.self.nodes.items l.self.bits l.fn.map l.fn.key

abbrev pub decreases-loop-left : goal.decreases-loop-left
decreases-loop-left l = l.left
