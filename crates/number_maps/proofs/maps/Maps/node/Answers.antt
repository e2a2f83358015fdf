use Rattle.std.proofs.Common.{◌≡◌, length, subst, arith}
use Rattle.number_maps.specs.way.Nodes.{IsNode}
use Rattle.number_maps.proofs.Sharing.{pushed-grows, pushed-node}
use Rattle.number_maps.proofs.maps.Maps.node.Goals as goal

pub returns-clause-grows : goal.returns-clause-grows
returns-clause-grows c = pushed-grows c.args.self.now.nodes.items (record { even = c.args.even; odd = c.args.odd }) c.args.self.now.begins c.push.new.self.items c.in_ok-push.ensures.items

pub returns-clause-made : goal.returns-clause-made
returns-clause-made c =
    let e : length c.args.self.now.nodes.items ≡ c.len-at.result = omega (arith, c.len-at.ensures) in
    subst (IsNode c.push.new.self.items c.args.even c.args.odd) e (pushed-node c.args.self.now.nodes.items (record { even = c.args.even; odd = c.args.odd }) c.push.new.self.items c.in_ok-push.ensures.items)
