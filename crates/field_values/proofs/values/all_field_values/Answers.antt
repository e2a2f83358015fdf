use Rattle.std.proofs.Common.{◌≡◌, ◌++◌, length, replicate, ap, ◌∙◌, arith}
use Rattle.std.specs.Prelude.{slice_get}
use Rattle.std.proofs.lemmas.Grind.{common_steps}
use Rattle.je_scopes.specs.Headers.{site_at}
use Rattle.name_lookup.proofs.Tables.{push-each}
use Rattle.name_sites.specs.View.{source_of}
use Rattle.class_typing.specs.ConstantFields.{unwritten, written_values}
use Rattle.field_values.specs.Values.{count_at, values_in}
use Rattle.field_values.proofs.Written.{values_of_all}
use Rattle.field_values.proofs.values.all_field_values.Goals as goal

pub loop-at-preserved : goal.loop-at-preserved
loop-at-preserved c = record {
  whole = grind (arith, common_steps, c.in_ok-push.ensures.items, c.loop-at.invariant.whole);
  each = λ d l. ap (λ ls. values_in (slice_get ls d)) c.in_ok-push.ensures.items
      ∙ push-each (λ n o. values_in o ≡ replicate (count_at c.args.hidden.now n) unwritten ++ written_values (site_at (source_of c.args.sites.now).sites n).written)
      c.loop-at.all.items _ c.loop-at.at c.loop-at.invariant.whole c.loop-at.invariant.each
      (c.in_ok-field_values.ensures ∙ (λ i. replicate (c.count_of.ensures i) unwritten ++ written_values (c.written-written.ensures i))) d l;
}

pub returns : goal.returns
returns c = λ p e.
    let n : c.loop-at.at ≡ length (source_of c.args.sites.now).sites = omega (arith, c.len-at-end.ensures.count, c.loop-at.auto.at-end, c.loop-at-test.false) in
    values_of_all p (count_at c.args.hidden.now) c.loop-at.all.items (source_of c.args.sites.now) e (c.loop-at.invariant.whole ∙ n)
    (λ d l. c.loop-at.invariant.each d (omega (arith, l, n)))
