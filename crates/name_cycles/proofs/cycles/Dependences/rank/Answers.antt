use Rattle.std.proofs.Common.{◌≡◌, ◌<◌, ℕ, List, length, sym, subst, arith}
use Rattle.std.specs.Prelude.{slice_index}
use Rattle.std.specs.List.{Contains}
use Rattle.scope_laws.proofs.Cycles.{grounding-more, least-more}
use Rattle.name_cycles.specs.Graph.{depends_on}
use Rattle.name_cycles.proofs.cycles.Dependences.rank.Goals as goal

pub returns-clause-grounding : goal.returns-clause-grounding
returns-clause-grounding c =
    let within : c.args.class.0 < length c.args.ranks.now.items = omega arith in
    let new : slice_index c.args.ranks.now.items c.args.class.0 ≡ 0 =
    subst (λ (l : List ℕ). slice_index l c.args.class.0 ≡ 0) c.as_slice.ensures.value (c.can_rank.ensures.new c.if-not-can_rank.false) in
    grounding-more (depends_on c.args.self.now) c.args.ranks.now.items c.args.class.0 c.args.rank c.requires.grounding c.requires.least within new
    (λ d q. subst (λ (l : List ℕ). 0 < slice_index l d) c.as_slice.ensures.value
    (c.can_rank.ensures.above c.if-not-can_rank.false d (subst (λ (l : List ℕ). Contains l d) (sym c.of.ensures) q)))

pub returns-clause-least : goal.returns-clause-least
returns-clause-least c =
    let within : c.args.class.0 < length c.args.ranks.now.items = omega arith in
    let new : slice_index c.args.ranks.now.items c.args.class.0 ≡ 0 =
    subst (λ (l : List ℕ). slice_index l c.args.class.0 ≡ 0) c.as_slice.ensures.value (c.can_rank.ensures.new c.if-not-can_rank.false) in
    least-more (depends_on c.args.self.now) c.args.ranks.now.items c.args.class.0 c.args.rank c.requires.grounding c.requires.least within new
    (λ d q. subst (λ (l : List ℕ). 0 < slice_index l d) c.as_slice.ensures.value
    (c.can_rank.ensures.above c.if-not-can_rank.false d (subst (λ (l : List ℕ). Contains l d) (sym c.of.ensures) q)))
