use Rattle.std.proofs.Common.{◌≡◌, ℕ, suc, ◌-◌, ap, sym, ◌∙◌, subst, arith}
use Rattle.std.specs.Prelude.{Some, true, ◌%◌, ◌/◌}
use Rattle.number_maps.specs.declared.maps.Node.{Node}
use Rattle.number_maps.specs.way.Nodes.{branch, child, found, is_tree, IsWith}
use Rattle.number_maps.proofs.Sharing.{with-one}
use Rattle.number_maps.proofs.maps.Maps.+extended.Goals as goal

pub returns-in_ok-map-clause-made : goal.returns-in_ok-map-clause-made
returns-in_ok-map-clause-made t c =
    let old = c.args.self.now.nodes.items in
    let mid = c.extended.new.self.nodes.items in
    let new = c.node.new.self.nodes.items in
    let less = c.args.bits - 1 in
    let left = c.in_ok-even.even in
    let n : Node = record { even = c.in_ok-even.even; odd = c.child-odd.result } in
    let is_even : c.args.key % 2 ≡ 0 = c.if-key-eq0.true in
    let more : c.args.bits ≡ suc less = (let z = c.if-bits-eq0.false in omega (arith, z)) in
    let there = subst (λ (b : ℕ). is_tree old b c.args.at ≡ true) more c.requires.there in
    let w = subst (λ (x : ℕ). IsWith mid less left (found old less x) (c.args.key / 2) c.args.value) (c.child-even.ensures ∙ ap (child old c.args.at) (sym is_even)) c.in_ok-even.ensures.made in
    subst (λ (b : ℕ). IsWith new b c.in_ok-map.map (found old b c.args.at) c.args.key c.args.value) (sym more)
    (with-one old mid new c.args.at less c.args.key c.args.value left c.in_ok-map.map there c.in_ok-even.ensures.grows c.in_ok-map.ensures.grows w n
    c.in_ok-map.ensures.made.is
    c.in_ok-map.ensures.made.within
    (ap (branch (Some n)) is_even)
    (λ bit l d. let b : bit ≡ 1 = omega (arith, l, d, is_even) in ap (branch (Some n)) b ∙ c.child-odd.ensures ∙ ap (child old c.args.at) (sym b)))

pub returns-in_ok-map-2-clause-made : goal.returns-in_ok-map-2-clause-made
returns-in_ok-map-2-clause-made t c =
    let old = c.args.self.now.nodes.items in
    let mid = c.extended-else-key-eq0.new.self.nodes.items in
    let new = c.node-else-key-eq0.new.self.nodes.items in
    let less = c.args.bits - 1 in
    let left = c.in_ok-odd.odd in
    let n : Node = record { even = c.child-even.result; odd = c.in_ok-odd.odd } in
    let is_odd : c.args.key % 2 ≡ 1 = (let z = c.if-key-eq0.false in omega (arith, z)) in
    let more : c.args.bits ≡ suc less = (let z = c.if-bits-eq0.false in omega (arith, z)) in
    let there = subst (λ (b : ℕ). is_tree old b c.args.at ≡ true) more c.requires.there in
    let w = subst (λ (x : ℕ). IsWith mid less left (found old less x) (c.args.key / 2) c.args.value) (c.child-odd.ensures ∙ ap (child old c.args.at) (sym is_odd)) c.in_ok-odd.ensures.made in
    subst (λ (b : ℕ). IsWith new b c.in_ok-map-2.map (found old b c.args.at) c.args.key c.args.value) (sym more)
    (with-one old mid new c.args.at less c.args.key c.args.value left c.in_ok-map-2.map there c.in_ok-odd.ensures.grows c.in_ok-map-2.ensures.grows w n
    c.in_ok-map-2.ensures.made.is
    c.in_ok-map-2.ensures.made.within
    (ap (branch (Some n)) is_odd)
    (λ bit l d. let b : bit ≡ 0 = omega (arith, l, d, is_odd) in ap (branch (Some n)) b ∙ c.child-even.ensures ∙ ap (child old c.args.at) (sym b)))
