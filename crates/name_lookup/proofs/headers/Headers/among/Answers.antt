use Rattle.std.proofs.Common.{◌≡◌, Some, None, ap}
use Rattle.std.specs.Prelude.{slice_get}
use Rattle.name_sites.specs.View.{source_of}
use Rattle.name_lookup.specs.View.{look_view, numbers, known_of}
use Rattle.name_lookup.proofs.Sets.{begins-empty, empty-distinct}
use Rattle.name_lookup.proofs.Walk.{walk_on, walk_stops, walk_done, walk_nearer}
use Rattle.scope_laws.proofs.Steps.{walk-begins}
use Rattle.name_lookup.proofs.headers.Headers.among.Goals as goal

pub loop-class-init : goal.loop-class-init
loop-class-init c = walk-begins (source_of c.args.sites.now) (known_of c.args.self.now) c.args.name (numbers c.args.supers.now) (numbers c.add_all.new.met.keys)
    (begins-empty c.new-met.result.keys c.add_all.new.met.keys c.new-met.ensures.empty c.in_ok-add_all.ensures.gains)
    (c.in_ok-add_all.ensures.distinct (empty-distinct c.new-met.result.keys c.new-met.ensures.empty)) c.requires.within

pub loop-class-preserved : goal.loop-class-preserved
loop-class-preserved c =
    let h : slice_get c.loop-class.met.keys c.loop-class.at ≡ Some c.in-Some.class = cc (c.in-Some.ensures, c.get_index.ensures.key) in
    walk_on (source_of c.args.sites.now) (known_of c.args.self.now) c.args.name c.requires.fits.within (numbers c.args.supers.now) c.loop-class.met.keys c.loop-class.at (look_view c.loop-class.found)
    c.loop-class.invariant c.in-Some.class c.visit.new.met.keys (look_view c.in_ok-brought.brought) (look_view c.joined-found.result)
    h c.in_ok-brought.ensures.gains c.in_ok-brought.ensures.distinct c.in_ok-brought.ensures.brings c.joined-found.ensures

pub loop-class-smaller : goal.loop-class-smaller
loop-class-smaller c =
    let h : slice_get c.loop-class.met.keys c.loop-class.at ≡ Some c.in-Some.class = cc (c.in-Some.ensures, c.get_index.ensures.key) in
    walk_nearer (source_of c.args.sites.now) (known_of c.args.self.now) c.args.name c.requires.fits.within (numbers c.args.supers.now) c.loop-class.met.keys c.loop-class.at (look_view c.loop-class.found)
    c.loop-class.invariant c.in-Some.class h

pub returns-in-Waits : goal.returns-in-Waits
returns-in-Waits c =
    let h : slice_get c.loop-class.met.keys c.loop-class.at ≡ Some c.in-Some.class = cc (c.in-Some.ensures, c.get_index.ensures.key) in
    walk_stops (source_of c.args.sites.now) (known_of c.args.self.now) c.args.name c.requires.fits.within (numbers c.args.supers.now) c.loop-class.met.keys c.loop-class.at (look_view c.loop-class.found)
    c.loop-class.invariant c.in-Some.class (look_view c.in_ok-brought.brought) h c.in_ok-brought.ensures.brings (ap look_view c.in-Waits.is)

pub returns : goal.returns
returns c =
    let h : slice_get c.loop-class.met.keys c.loop-class.at ≡ None = cc (c.in_default.ensures, c.get_index.ensures.key) in
    walk_done (source_of c.args.sites.now) (known_of c.args.self.now) c.args.name c.requires.fits.within (numbers c.args.supers.now) c.loop-class.met.keys c.loop-class.at (look_view c.loop-class.found)
    c.loop-class.invariant h
