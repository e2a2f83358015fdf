use Rattle.std.proofs.Common.{◌≡◌, ℕ, [], List, Some, None, length, refl, subst}
use Rattle.std.specs.Prelude.{slice_get}
use Rattle.scope_laws.proofs.Gains.{Gains}
use Rattle.scope_laws.proofs.Cycles.{closing-begins, closing-ends}
use Rattle.name_lookup.specs.View.{numbers}
use Rattle.name_lookup.proofs.Sets.{begins-empty, empty-distinct}
use Rattle.name_lookup.proofs.Walk.{past-numbers}
use Rattle.name_cycles.specs.Graph.{depends_on}
use Rattle.name_cycles.proofs.Ways.{close_on, close_nearer, is_one_of}
use Rattle.name_cycles.proofs.cycles.Dependences.leads.Goals as goal

pub loop-next-init : goal.loop-next-init
loop-next-init c = closing-begins (depends_on c.args.self.now) (length c.args.self.now.lists.items) c.args.from.0 (numbers c.add_all.new.met.keys)
    (subst (λ (l : List ℕ). Gains [] (numbers c.add_all.new.met.keys) l) c.of.ensures (begins-empty c.new-met.result.keys c.add_all.new.met.keys c.new-met.ensures.empty c.in_ok-add_all.ensures.gains))
    (c.in_ok-add_all.ensures.distinct (empty-distinct c.new-met.result.keys c.new-met.ensures.empty)) c.requires.within

pub loop-next-preserved : goal.loop-next-preserved
loop-next-preserved c =
    let h : slice_get c.loop-next.met.keys c.loop-next.at ≡ Some c.in-Some.next = cc (c.in-Some.ensures, c.get_index.ensures.key) in
    close_on (depends_on c.args.self.now) (length c.args.self.now.lists.items) c.args.from.0 c.loop-next.met.keys c.loop-next.at c.loop-next.invariant c.in-Some.next c.add_all-in-Some.new.met.keys h
    (subst (λ (l : List ℕ). Gains (numbers c.loop-next.met.keys) (numbers c.add_all-in-Some.new.met.keys) l) c.of-in-Some.ensures c.in_ok-add_all-2.ensures.gains) c.in_ok-add_all-2.ensures.distinct c.requires.within

pub loop-next-smaller : goal.loop-next-smaller
loop-next-smaller c =
    let h : slice_get c.loop-next.met.keys c.loop-next.at ≡ Some c.in-Some.next = cc (c.in-Some.ensures, c.get_index.ensures.key) in
    close_nearer (depends_on c.args.self.now) (length c.args.self.now.lists.items) c.args.from.0 c.loop-next.met.keys c.loop-next.at c.loop-next.invariant c.in-Some.next h

pub returns : goal.returns
returns c =
    let h : slice_get c.loop-next.met.keys c.loop-next.at ≡ None = cc (c.in_default.ensures, c.get_index.ensures.key) in
    let ends = closing-ends (depends_on c.args.self.now) (length c.args.self.now.lists.items) c.args.from.0 (numbers c.loop-next.met.keys) c.loop-next.at c.loop-next.invariant (past-numbers c.loop-next.met.keys c.loop-next.at h) c.args.to.0 in
    let one = is_one_of _ c.args.to (λ k. refl) c.loop-next.met.keys c.contains.result c.contains.ensures in
    (λ e. ends.0 (one.0 e), λ w. one.1 (ends.1 w))
