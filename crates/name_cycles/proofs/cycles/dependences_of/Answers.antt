use Rattle.std.proofs.Common.{◌<◌, ◌-◌, ◌+◌, ◌++◌, length, sym, ap, ◌∙◌, arith}
use Rattle.std.specs.List.{flat_map}
use Rattle.std.proofs.lemmas.List.{map-append}
use Rattle.std.proofs.lemmas.Option.{slice_get_within}
use Rattle.je_ast.specs.Types.{TypeName, type_view}
use Rattle.je_scopes.specs.Scope.{header, named}
use Rattle.je_scopes.specs.Settled.{heads_of, parts_of}
use Rattle.name_sites.specs.Number.{number_of}
use Rattle.name_sites.specs.View.{source_of}
use Rattle.name_lookup.specs.View.{numbers, known_of}
use Rattle.name_lookup.proofs.Names.{flat_next, flat_end}
use Rattle.name_cycles.proofs.Graphs.{read_settled}
use Rattle.name_cycles.proofs.cycles.dependences_of.Goals as goal

pub loop-head-init : goal.loop-head-init
loop-head-init c =
    ap (λ k. numbers k ++ flat_map (λ (t : TypeName). named (source_of c.args.sites.now) (known_of c.args.headers.now) c.args.class.0 header (parts_of t)) (heads_of (source_of c.args.sites.now) c.args.class.0)) c.new-list.ensures.items

pub loop-head-preserved : goal.loop-head-preserved
loop-head-preserved c = flat_next (λ (t : TypeName). named (source_of c.args.sites.now) (known_of c.args.headers.now) c.args.class.0 header (parts_of t)) (heads_of (source_of c.args.sites.now) c.args.class.0) c.loop-head.at (numbers c.loop-head.list.items) _ c.loop-head.invariant
    (type_view c.in-Some.head.now) (numbers c.in_ok-meant.meant.named.items) (numbers c.extend_from_slice.new.self.items) (sym c.in-Some.ensures.lookup) c.in_ok-meant.ensures.named
    (ap numbers c.in_ok-extend_from_slice.ensures.items ∙ map-append number_of c.loop-head.list.items c.as_slice.result.now ∙ ap (λ k. numbers c.loop-head.list.items ++ numbers k) c.as_slice.ensures.value)

pub loop-head-smaller : goal.loop-head-smaller
loop-head-smaller c =
    let l : c.loop-head.at < length (heads_of (source_of c.args.sites.now) c.args.class.0) = slice_get_within (heads_of (source_of c.args.sites.now) c.args.class.0) c.loop-head.at (type_view c.in-Some.head.now) (sym c.in-Some.ensures.lookup) in
    let k : length (heads_of (source_of c.args.sites.now) c.args.class.0) - (c.loop-head.at + 1) < length (heads_of (source_of c.args.sites.now) c.args.class.0) - c.loop-head.at = omega (arith, l) in k

pub returns : goal.returns
returns c = read_settled (source_of c.args.sites.now) (known_of c.args.headers.now) c.args.class.0 (numbers c.loop-head.list.items) c.requires.settled
    (flat_end (λ (t : TypeName). named (source_of c.args.sites.now) (known_of c.args.headers.now) c.args.class.0 header (parts_of t)) (heads_of (source_of c.args.sites.now) c.args.class.0) c.loop-head.at (numbers c.loop-head.list.items) _ c.loop-head.invariant (sym c.in_default.ensures.lookup))
