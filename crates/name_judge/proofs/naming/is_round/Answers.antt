use Rattle.std.proofs.Common.{◌≡◌, Option, sym, ◌∙◌, ap, subst}
use Rattle.std.specs.List.{list_any}
use Rattle.je_core.specs.declared.types.ClassId.{ClassId}
use Rattle.je_scopes.specs.Headers.{site_at}
use Rattle.name_walk.specs.View.{round_from}
use Rattle.name_sites.specs.Number.{number_in}
use Rattle.name_sites.specs.View.{source_of}
use Rattle.name_judge.proofs.Rounds.{count_falls, has_it, round_begins, round_here, round_on}
use Rattle.name_judge.proofs.naming.is_round.Goals as goal

pub loop-next-init : goal.loop-next-init
loop-next-init c = round_begins (source_of c.args.sites.now) c.args.name c.args.class.0 _ c.outside-next.ensures.round

pub loop-next-preserved : goal.loop-next-preserved
loop-next-preserved c = round_on (source_of c.args.sites.now) c.args.name c.in-Some.round.0 _ _ c.if-has_this_name.ensures c.outside-next-in-Some.ensures.round
    (subst (λ (o : Option ClassId). list_any (has_it (source_of c.args.sites.now) c.args.name) (round_from (source_of c.args.sites.now).sites (number_in o))
    ≡ list_any (has_it (source_of c.args.sites.now) c.args.name) (site_at (source_of c.args.sites.now).sites c.args.class.0).spot.round) c.in-Some.is c.loop-next.invariant)

pub loop-next-smaller : goal.loop-next-smaller
loop-next-smaller c = count_falls c.outside-next-in-Some.result.within c.loop-next.next c.in-Some.round c.in-Some.is c.outside-next-in-Some.ensures.earlier

pub returns-then-has_this_name : goal.returns-then-has_this_name
returns-then-has_this_name c = round_here (source_of c.args.sites.now) c.args.name c.in-Some.round.0 _ c.if-has_this_name.ensures
    (subst (λ (o : Option ClassId). list_any (has_it (source_of c.args.sites.now) c.args.name) (round_from (source_of c.args.sites.now).sites (number_in o))
    ≡ list_any (has_it (source_of c.args.sites.now) c.args.name) (site_at (source_of c.args.sites.now).sites c.args.class.0).spot.round) c.in-Some.is c.loop-next.invariant)

pub returns : goal.returns
returns c = ap (λ (o : Option ClassId). list_any (has_it (source_of c.args.sites.now) c.args.name) (round_from (source_of c.args.sites.now).sites (number_in o))) (sym c.in_default.is) ∙ c.loop-next.invariant
