use Rattle.std.proofs.Common.{◌≡◌, ◌<◌, ◌-◌, ◌+◌, length, sym, ap, arith}
use Rattle.std.proofs.lemmas.Option.{slice_get_within}
use Rattle.je_ast.specs.Types.{type_view}
use Rattle.je_scopes.specs.Settled.{heads_of}
use Rattle.name_sites.specs.View.{source_of}
use Rattle.name_lookup.specs.View.{look_view, numbers, known_of}
use Rattle.name_lookup.proofs.Names.{after_nothing, not-waiting, read_next, read_waits, read_end}
use Rattle.name_lookup.proofs.headers.Headers.read.Goals as goal

pub loop-head-init : goal.loop-head-init
loop-head-init c = after_nothing (numbers c.new-supers.result.items) (ap numbers c.new-supers.ensures.items) _

pub loop-head-preserved : goal.loop-head-preserved
loop-head-preserved c = read_next (source_of c.args.sites.now) (known_of c.args.self.now) c.args.class.0 (heads_of (source_of c.args.sites.now) c.args.class.0) c.loop-head.at (numbers c.loop-head.supers.items) _ c.loop-head.invariant
    (type_view c.in-Some.head.now) (look_view c.in_ok-meant.meant.look) (numbers c.in_ok-meant.meant.named.items) (numbers c.add_super.new.supers.items)
    (sym c.in-Some.ensures.lookup) c.in_ok-meant.ensures.look c.in_ok-meant.ensures.named (not-waiting c.in_ok-meant.meant.look c.in_default-look.not-Waits) c.in_ok-add_super.ensures

pub loop-head-smaller : goal.loop-head-smaller
loop-head-smaller c =
    let l : c.loop-head.at < length (heads_of (source_of c.args.sites.now) c.args.class.0) = slice_get_within (heads_of (source_of c.args.sites.now) c.args.class.0) c.loop-head.at (type_view c.in-Some.head.now) (sym c.in-Some.ensures.lookup) in
    let k : length (heads_of (source_of c.args.sites.now) c.args.class.0) - (c.loop-head.at + 1) < length (heads_of (source_of c.args.sites.now) c.args.class.0) - c.loop-head.at = omega (arith, l) in k

pub returns-in-Waits : goal.returns-in-Waits
returns-in-Waits c = read_waits (source_of c.args.sites.now) (known_of c.args.self.now) c.args.class.0 (heads_of (source_of c.args.sites.now) c.args.class.0) c.loop-head.at (numbers c.loop-head.supers.items) _ c.loop-head.invariant
    (type_view c.in-Some.head.now) (look_view c.in_ok-meant.meant.look) (sym c.in-Some.ensures.lookup) c.in_ok-meant.ensures.look (ap look_view c.in-Waits.is)

pub returns : goal.returns
returns c = read_end (source_of c.args.sites.now) (known_of c.args.self.now) c.args.class.0 (heads_of (source_of c.args.sites.now) c.args.class.0) c.loop-head.at (numbers c.loop-head.supers.items) _ c.loop-head.invariant (sym c.in_default.ensures.lookup)

pub overflow_add-at : goal.overflow_add-at
overflow_add-at c = omega (arith, c.in-Some.ensures.few)
