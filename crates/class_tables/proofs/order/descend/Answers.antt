use Rattle.std.proofs.Common.{◌≡◌, ◌++◌, [], ◌∷◌, sym, subst}
use Rattle.je_core.specs.View.{program_view}
use Rattle.je_classes.specs.Members.{In}
use Rattle.je_classes.proofs.Sets.{in-left}
use Rattle.class_tables.proofs.Orders.{placed, last-ready, rest-path}
use Rattle.class_tables.proofs.order.descend.Goals as goal

pub loop-next-preserved : goal.loop-next-preserved
loop-next-preserved c =
    let p = program_view c.args.program.now in
    let old = c.loop-next.order in
    let new = c.place.new.self in
    let next = c.in-Some.next in
    let rest = c.pop.new.self.items in
    let inv = c.loop-next.invariant in
    let says = c.in_ok-place.ensures in
    let e : c.loop-next.path.items ≡ rest ++ next ∷ [] = c.in-Some.ensures.items in (
      placed p old new next inv.0 (last-ready p old c.args.class c.loop-next.path.items rest next e inv.1) says.classes says.count says.placed,
      rest-path p old c.args.class c.loop-next.path.items rest next e inv.1 new says.classes,
      λ k q. subst (λ xs. In xs k) (sym says.classes) (in-left (next ∷ []) (inv.2 k q)),
    )
