use Rattle.std.proofs.Common.{◌≡◌, ◌<◌, length, refl, sym, ap, ◌∙◌, arith, true, false}
use Rattle.je_scopes.specs.Headers.{site_at}
use Rattle.je_scopes.specs.Looks.{nothing}
use Rattle.je_scopes.specs.Scope.{at_top, nearest, part_outside, in_scope}
use Rattle.name_sites.specs.Number.{number_in}
use Rattle.name_sites.specs.View.{source_of}
use Rattle.name_walk.specs.View.{round_from}
use Rattle.name_lookup.specs.View.{look_view, part_view, known_of}
use Rattle.name_lookup.proofs.Names.{found_nearest, found_at_top, further_out}
use Rattle.name_lookup.proofs.headers.Headers.in_scope.Goals as goal

pub loop-near-init : goal.loop-near-init
loop-near-init c = refl

pub loop-near-preserved : goal.loop-near-preserved
loop-near-preserved c =
    further_out (source_of c.args.sites.now) (known_of c.args.self.now) c.args.name (part_view c.loop-near.part) c.loop-near.class.0 c.in-Some.within.0 (part_view c.outside-part.result) _
    (sym (c.is_nothing.ensures.0 c.if-not-is_nothing.false) ∙ c.in_ok-near.ensures)
    (c.outside-outside.ensures.round ∙ ap (λ o. round_from (source_of c.args.sites.now).sites (number_in o)) c.in-Some.is)
    (c.outside-part.ensures ∙ ap (part_outside (part_view c.loop-near.part)) c.outside-outside.ensures.context)
    c.loop-near.invariant

pub loop-near-smaller : goal.loop-near-smaller
loop-near-smaller c =
    let e = c.outside-outside.ensures.round ∙ ap (λ o. round_from (source_of c.args.sites.now).sites (number_in o)) c.in-Some.is in
    let k = ap length e in
    let l : length (site_at (source_of c.args.sites.now).sites c.in-Some.within.0).spot.round < length (site_at (source_of c.args.sites.now).sites c.loop-near.class.0).spot.round = omega (arith, k) in l

pub returns-then-not-is_nothing : goal.returns-then-not-is_nothing
returns-then-not-is_nothing c =
    found_nearest (source_of c.args.sites.now) (known_of c.args.self.now) c.args.name (part_view c.loop-near.part) c.loop-near.class.0 (look_view c.in_ok-near.near) _
    c.in_ok-near.ensures
    (λ q. let a : c.is_nothing.result ≡ true = c.is_nothing.ensures.1 q in let b : c.is_nothing.result ≡ false = c.if-not-is_nothing.true in absurd (cc))
    c.loop-near.invariant

pub returns-in_default : goal.returns-in_default
returns-in_default c =
    found_at_top (source_of c.args.sites.now) (known_of c.args.self.now) c.args.name (part_view c.loop-near.part) c.loop-near.class.0 (look_view c.of.result) _
    (sym (c.is_nothing.ensures.0 c.if-not-is_nothing.false) ∙ c.in_ok-near.ensures)
    (c.outside-outside.ensures.round ∙ ap (λ o. round_from (source_of c.args.sites.now).sites (number_in o)) c.in_default.is)
    (c.of.ensures ∙ c.at_top.ensures ∙ ap (λ u. at_top (source_of c.args.sites.now) u c.args.name) c.unit.ensures)
    c.loop-near.invariant
