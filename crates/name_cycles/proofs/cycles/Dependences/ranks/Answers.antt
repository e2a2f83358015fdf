use Rattle.std.proofs.Common.{◌≡◌, ℕ, List, sym, subst, ◌∙◌, arith}
use Rattle.std.specs.Prelude.{slice_index}
use Rattle.std.proofs.lemmas.Grind.{common_steps}
use Rattle.scope_laws.proofs.Cycles.{grounding-start}
use Rattle.name_cycles.specs.Graph.{depends_on}
use Rattle.name_cycles.proofs.Ranks.{none_more}
use Rattle.name_cycles.proofs.cycles.Dependences.ranks.Goals as goal

pub loop-at-preserved : goal.loop-at-preserved
loop-at-preserved c = record {
  whole = grind (arith, common_steps, c.in_ok-push.ensures.items, c.loop-at.invariant.whole);
  none = subst (λ (l : List ℕ). (d : ℕ) → slice_index l d ≡ 0) (sym c.in_ok-push.ensures.items) (none_more c.loop-at.ranks.items c.loop-at.invariant.none);
}

pub loop-before-init : goal.loop-before-init
loop-before-init c = record {
  whole = grind (arith, common_steps);
  grounding = grounding-start (depends_on c.args.self.now) c.loop-at.ranks.items c.loop-at.invariant.none;
  least = λ d. omega (arith, c.loop-at.invariant.none d);
}

pub loop-before-preserved : goal.loop-before-preserved
loop-before-preserved c = record {
  whole = c.rank.ensures.whole ∙ c.loop-before.invariant.whole;
  grounding = c.rank.ensures.grounding;
  least = c.rank.ensures.least;
}

pub rank-requires : goal.rank-requires
rank-requires c = record {
  grounding = c.loop-before.invariant.grounding;
  least = λ d. omega (arith, c.loop-before.invariant.least d);
}
