use Rattle.std.proofs.Common.{◌<◌, ◌≤◌, length, ap, ◌∙◌, Option, arith}
use Rattle.je_base.specs.declared.span.Span.{Span}
use Rattle.je_scopes.specs.Headers.{site_at}
use Rattle.je_scopes.specs.Sites.{Site}
use Rattle.body_typing.specs.Expressions.{is_behind}
use Rattle.name_sites.specs.View.{source_of}
use Rattle.body_typing.specs.LocalClasses.{is_declared_at}
use Rattle.class_spots.specs.Starts.{at_start, kept, name_in, word_in}
use Rattle.class_spots.proofs.Firsts.{first_of_all, first_on, name_there, word_there}
use Rattle.class_spots.proofs.places.spots.Goals as goal

pub loop-at-preserved : goal.loop-at-preserved
loop-at-preserved c =
    let sites = (source_of c.args.sites.now).sites in
    let at = c.loop-at.at in
    let within : at < length sites = omega (arith, c.loop-at-test.true, c.len-at-end.ensures.count) in
    record {
      anonymous = λ word. first_on sites at (λ (s : Site). is_behind word s.written) (kept c.loop-at.anonymous word) (c.loop-at.invariant.anonymous word) _ _ within (c.in_ok-keep.ensures word)
          (ap (λ (o : Option Span). at_start o at word) (c.word_of.ensures ∙ ap word_in c.written-written.ensures) ∙ word_there word (site_at sites at).written at);
      declared = λ id. first_on sites at (λ (s : Site). is_declared_at id s.written) (kept c.loop-at.declared id.span) (c.loop-at.invariant.declared id) _ _ within (c.in_ok-keep-2.ensures id.span)
          (ap (λ (o : Option Span). at_start o at id.span) (c.name_of.ensures ∙ ap name_in c.written-written.ensures) ∙ name_there id (site_at sites at).written at);
    }

pub returns : goal.returns
returns c =
    let sites = (source_of c.args.sites.now).sites in
    let past : length sites ≤ c.loop-at.at = omega (arith, c.loop-at-test.false, c.len-at-end.ensures.count) in
    record {
      anonymous = λ word. first_of_all sites c.loop-at.at (λ (s : Site). is_behind word s.written) (kept c.loop-at.anonymous word) (c.loop-at.invariant.anonymous word) past;
      declared = λ id. first_of_all sites c.loop-at.at (λ (s : Site). is_declared_at id s.written) (kept c.loop-at.declared id.span) (c.loop-at.invariant.declared id) past;
    }
