use Rattle.std.proofs.Common.{◌≡◌, length, map, ap, sym, ◌∙◌, arith}
use Rattle.std.specs.Prelude.{is_some, slice_get}
use Rattle.std.proofs.lemmas.Grind.{common_steps}
use Rattle.name_lookup.proofs.Tables.{push-each}
use Rattle.name_sites.specs.View.{source_of}
use Rattle.body_scopes.specs.View.{is_set}
use Rattle.class_typing.specs.Places.{is_placed}
use Rattle.member_forms.specs.Bodies.{met_seen}
use Rattle.type_decl.proofs.Past.{all_placed, some_seen}
use Rattle.type_decl.proofs.meeting.placed.Goals as goal

pub loop-at-preserved : goal.loop-at-preserved
loop-at-preserved c = record {
  whole = grind (arith, common_steps, c.in_ok-push.ensures.items, c.loop-at.invariant.whole);
  each = λ d l. ap (λ bs. is_set (slice_get bs d)) c.in_ok-push.ensures.items
      ∙ push-each (λ n o. is_set o ≡ is_placed (source_of c.args.sites.now).sites (map met_seen c.args.met.now) n)
      c.loop-at.asked.items _ c.loop-at.at c.loop-at.invariant.whole c.loop-at.invariant.each
      (c.is_some.ensures ∙ sym (some_seen (λ m. met_seen m.now) c.placed_by.result) ∙ ap is_some c.placed_by.ensures) d l;
}

pub returns : goal.returns
returns c =
    let e : c.loop-at.at ≡ length (source_of c.args.sites.now).sites = omega (arith, c.len-at-end.ensures.count, c.loop-at.auto.at-end, c.loop-at-test.false) in
    all_placed (source_of c.args.sites.now).sites (map met_seen c.args.met.now) c.loop-at.asked.items (c.loop-at.invariant.whole ∙ e)
    (λ d l. c.loop-at.invariant.each d (omega (arith, l, e)))
