use Rattle.std.proofs.Common.{◌≡◌, [], arith}
use Rattle.std.proofs.lemmas.Grind.{common_steps}
use Rattle.parse_place.proofs.Depths.{deep_at_end}
use Rattle.parse_place.proofs.nests.nests_deep.Goals as goal

pub returns : goal.returns
returns c =
    let empty : c.loop-token.rest.now ≡ [] = grind (arith, common_steps) in
    rw (empty, deep_at_end) at c.loop-token.invariant
