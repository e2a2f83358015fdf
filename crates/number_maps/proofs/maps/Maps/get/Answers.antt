use Rattle.std.proofs.Common.{◌-◌, ◌<◌, sym, ap, ◌∙◌, arith}
use Rattle.std.specs.Prelude.{◌/◌}
use Rattle.number_maps.specs.way.Nodes.{child, found}
use Rattle.number_maps.proofs.Sharing.{found-next, bit-is}
use Rattle.number_maps.proofs.maps.Maps.get.Goals as goal

pub loop-left-preserved : goal.loop-left-preserved
loop-left-preserved c =
    let nodes = c.args.self.now.nodes.items in
    let more : 0 < c.loop-left.left = omega (arith, c.loop-left-test.true) in
    ap (λ at. found nodes (c.loop-left.left - 1) at (c.loop-left.rest / 2)) (c.child-at.ensures ∙ ap (child nodes c.loop-left.at) (bit-is c.loop-left.rest))
    ∙ sym (found-next nodes c.loop-left.left c.loop-left.at c.loop-left.rest more) ∙ c.loop-left.invariant
