use Rattle.std.proofs.Common.{◌≡◌, List, length, filter, ap, ◌∙◌, arith}
use Rattle.std.proofs.lemmas.Grind.{common_steps}
use Rattle.name_lookup.proofs.Tables.{push-each}
use Rattle.name_typing.specs.Program.{Frame}
use Rattle.body_places.specs.View.{program_seen}
use Rattle.body_walks.specs.Known.{captured_seen, locals_in, round_seen}
use Rattle.class_places.specs.way.Locals.{is_kept, locals_from}
use Rattle.class_places.proofs.locals.all_locals.Goals as goal

pub loop-at-preserved : goal.loop-at-preserved
loop-at-preserved c = record {
  whole = grind (arith, common_steps, c.in_ok-push.ensures.items, c.loop-at.invariant.whole);
  each = λ d l. ap (λ ls. captured_seen ls d) c.in_ok-push.ensures.items
      ∙ push-each (λ n o. locals_in o ≡ filter (is_kept c.args.all.now.keys n) (locals_from (round_seen c.args.round.now n))) c.loop-at.lists.items _ c.loop-at.at c.loop-at.invariant.whole c.loop-at.invariant.each
      (c.in_ok-locals_of.ensures ∙ ap (λ (fs : List Frame). filter (is_kept c.args.all.now.keys c.loop-at.at) (locals_from fs)) c.round_of.ensures) d l;
}

pub returns : goal.returns
returns c =
    let e : c.loop-at.at ≡ length (program_seen c.args.program.now).source.sites = omega (arith, c.len-at-end.ensures.count, c.loop-at.auto.at-end, c.loop-at-test.false) in
    record {
      whole = c.loop-at.invariant.whole ∙ e;
      each = λ d l. c.loop-at.invariant.each d (omega (arith, l, e));
    }
