use Rattle.std.proofs.Common.{◌≡◌, nat_le, length}
use Rattle.parse_laws.specs.way.Place.{nest}
use Rattle.parse_place.proofs.Depths.{deep}
use Rattle.parse_place.proofs.nests.nests_deep.Given as goal

abbrev pub invariant-loop-token : goal.invariant-loop-token
invariant-loop-token l = deep l.most l.opened l.rest ≡ nat_le l.most (nest l.fn.tokens).0

abbrev pub decreases-loop-token : goal.decreases-loop-token
decreases-loop-token l = length l.rest
