use Rattle.std.proofs.Common.{◌≡◌, length, ap, ◌∙◌, arith}
use Rattle.std.specs.Prelude.{slice_get}
use Rattle.std.proofs.lemmas.Grind.{common_steps}
use Rattle.je_scopes.specs.Settled as specs
use Rattle.name_sites.specs.View.{source_of}
use Rattle.name_lookup.proofs.Tables.{push-each}
use Rattle.name_cycles.specs.Graph.{list_view}
use Rattle.name_cycles.proofs.Graphs.{all_read}
use Rattle.name_cycles.proofs.cycles.read_dependences.Goals as goal

pub loop-at-preserved : goal.loop-at-preserved
loop-at-preserved c = record {
  whole = grind (arith, common_steps, c.in_ok-push.ensures.items, c.loop-at.invariant.whole);
  right = λ d l. ap (λ ls. list_view (slice_get ls d)) c.in_ok-push.ensures.items ∙ push-each (λ n o. list_view o ≡ specs.dependences (source_of c.args.sites.now) n) c.loop-at.lists.items _ c.loop-at.at c.loop-at.invariant.whole c.loop-at.invariant.right c.in_ok-dependences_of.ensures d l;
}

pub returns : goal.returns
returns c =
    let e : c.loop-at.at ≡ length (source_of c.args.sites.now).sites = omega (arith, c.len-at-end.ensures.count, c.loop-at.auto.at-end, c.loop-at-test.false) in
    all_read (source_of c.args.sites.now) _ (c.loop-at.invariant.whole ∙ e) (λ d l. c.loop-at.invariant.right d (omega (arith, l, e)))
