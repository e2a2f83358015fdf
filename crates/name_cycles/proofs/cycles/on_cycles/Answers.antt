use Rattle.std.proofs.Common.{◌≡◌, ℕ, List, length, Some, sym, subst, ap, ◌∙◌, arith}
use Rattle.std.specs.Prelude.{slice_get}
use Rattle.std.proofs.lemmas.Grind.{common_steps}
use Rattle.je_scopes.specs.Settled as specs
use Rattle.scope_laws.specs.Ways.{IsGrounding}
use Rattle.name_sites.specs.View.{source_of}
use Rattle.name_lookup.proofs.Tables.{push-each}
use Rattle.name_cycles.specs.Graph.{depends_on}
use Rattle.name_cycles.proofs.Graphs.{leading_depends, leads_within}
use Rattle.name_cycles.proofs.cycles.on_cycles.Goals as goal

pub is_on_cycle-requires : goal.is_on_cycle-requires
is_on_cycle-requires c = record {
  grounding = subst (λ (l : List ℕ). IsGrounding (depends_on c.args.graph.now) l) (sym c.as_slice.ensures.value) c.in_ok-ranks.ensures.grounding;
  within = leads_within (source_of c.args.sites.now) c.args.graph.now c.requires.library c.requires.fits;
}

pub loop-at-preserved : goal.loop-at-preserved
loop-at-preserved c = record {
  whole = grind (arith, common_steps, c.in_ok-push.ensures.items, c.loop-at.invariant.whole);
  each = λ d l. ap (λ ls. slice_get ls d) c.in_ok-push.ensures.items ∙ push-each (λ n o. o ≡ Some (specs.depends (source_of c.args.sites.now) n n)) c.loop-at.list.items _ c.loop-at.at c.loop-at.invariant.whole c.loop-at.invariant.each
      (ap Some (leading_depends (source_of c.args.sites.now) c.args.graph.now c.requires.fits c.loop-at.at c.loop-at.at _ c.in_ok-is_on_cycle.ensures)) d l;
}

pub returns : goal.returns
returns c =
    let e : c.loop-at.at ≡ length (source_of c.args.sites.now).sites = omega arith in
    record {
      whole = c.loop-at.invariant.whole ∙ e;
      each = λ d l. c.loop-at.invariant.each d (omega (arith, l, e));
    }
