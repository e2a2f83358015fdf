use Rattle.std.proofs.Common.{◌≡◌, length, map, true, sym, subst, ◌∙◌, arith}
use Rattle.std.specs.Prelude.{slice_get}
use Rattle.std.proofs.lemmas.Grind.{common_steps}
use Rattle.name_lookup.proofs.Tables.{push-each}
use Rattle.name_sites.specs.View.{source_of}
use Rattle.program_tables.specs.Known.{frames_in}
use Rattle.class_typing.specs.Places.{round_met}
use Rattle.type_decl.specs.way.Asked.{is_asked}
use Rattle.member_forms.specs.Bodies.{met_seen}
use Rattle.type_decl.proofs.Past.{asked_rounds}
use Rattle.type_decl.proofs.told.rounds_asked.Goals as goal

pub loop-at-preserved : goal.loop-at-preserved
loop-at-preserved c = record {
  whole = grind (arith, common_steps, c.in_ok-push.ensures.items, c.loop-at.invariant.whole);
  each = λ d l. subst (λ rounds. is_asked c.args.asked.now d ≡ true →
      frames_in (slice_get rounds d) ≡ round_met (source_of c.args.sites.now).sites (map met_seen c.args.all.now.met.items) d)
      (sym c.in_ok-push.ensures.items)
      (push-each (λ n o. is_asked c.args.asked.now n ≡ true →
      frames_in o ≡ round_met (source_of c.args.sites.now).sites (map met_seen c.args.all.now.met.items) n)
      c.loop-at.rounds.items c.in_ok-round_if.field-0 c.loop-at.at c.loop-at.invariant.whole c.loop-at.invariant.each c.in_ok-round_if.ensures d l);
}

pub returns : goal.returns
returns c =
    let e : c.loop-at.at ≡ length (source_of c.args.sites.now).sites
    = omega (arith, c.len-at-end.ensures.count, c.loop-at.auto.at-end, c.loop-at-test.false) in
    asked_rounds (source_of c.args.sites.now).sites (map met_seen c.args.all.now.met.items) (is_asked c.args.asked.now)
    c.loop-at.rounds.items (c.loop-at.invariant.whole ∙ e) (λ d l. c.loop-at.invariant.each d (omega (arith, l, e)))
