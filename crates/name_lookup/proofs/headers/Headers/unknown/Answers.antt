use Rattle.std.proofs.Common.{◌≡◌, ◌+◌, ℕ, List, None, length, refl, ap, ◌∙◌, arith}
use Rattle.std.specs.Prelude.{slice_get}
use Rattle.name_sites.specs.View.{source_of}
use Rattle.std.proofs.lemmas.Grind.{common_steps}
use Rattle.name_lookup.specs.View.{header_view, known_of}
use Rattle.name_lookup.proofs.Tables.{push-each}
use Rattle.name_lookup.proofs.headers.Headers.unknown.Goals as goal

pub loop-preserved : goal.loop-preserved
loop-preserved c = record {
  whole = grind (arith, common_steps, c.in_ok-push.ensures.items, c.loop.invariant.whole);
  none = λ d l. ap (λ ts. header_view (slice_get ts d)) c.in_ok-push.ensures.items ∙ push-each (λ n o. header_view o ≡ None) c.loop.supers.items None c.loop.counter c.loop.invariant.whole c.loop.invariant.none refl d l;
}

pub returns : goal.returns
unfolding known_of
returns c = let e : c.loop.counter ≡ length (source_of c.args.sites.now).sites = omega (arith, c.len-end.ensures.count, c.loop.auto.counter-end, c.loop-test.false) in record {
  whole = c.loop.invariant.whole ∙ e;
  none = λ d l. c.loop.invariant.none d (omega (arith, l, e));
}
