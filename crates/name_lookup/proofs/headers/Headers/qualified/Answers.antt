use Rattle.std.proofs.Common.{◌≡◌, ◌++◌, length, ◌<◌, refl, ap, ◌∙◌, arith}
use Rattle.je_scopes.specs.Scope.{named_on}
use Rattle.name_sites.specs.View.{source_of}
use Rattle.name_lookup.specs.View.{look_view, numbers, known_of}
use Rattle.name_lookup.proofs.Names.{qualified_next, named_next, qualified_end, named_end}
use Rattle.name_lookup.proofs.headers.Headers.qualified.Goals as goal

pub loop-part-init : goal.loop-part-init
loop-part-init c = record {
  meant = refl;
  names = ap (λ k. numbers k ++ named_on (source_of c.args.sites.now) (known_of c.args.self.now) (look_view c.args.first) c.args.further.now) c.new-named.ensures.items;
}

pub loop-part-preserved : goal.loop-part-preserved
loop-part-preserved c = let l : c.loop-part.part-index < length c.args.further.now = omega arith in record {
  meant = qualified_next (source_of c.args.sites.now) (known_of c.args.self.now) c.args.further.now c.loop-part.part-index _ l (look_view c.loop-part.look) (look_view c.in_ok-look.look) c.in_ok-look.ensures _ c.loop-part.invariant.meant;
  names = named_next (source_of c.args.sites.now) (known_of c.args.self.now) c.args.further.now c.loop-part.part-index _ l (look_view c.loop-part.look) (look_view c.in_ok-look.look) c.in_ok-look.ensures _ _ _ c.in_ok-add_found.ensures c.loop-part.invariant.names;
}

pub returns : goal.returns
returns c = record {
  look = qualified_end (source_of c.args.sites.now) (known_of c.args.self.now) c.args.further.now c.loop-part.part-index c.loop-part-test.false (look_view c.loop-part.look) _ c.loop-part.invariant.meant;
  named = named_end (source_of c.args.sites.now) (known_of c.args.self.now) c.args.further.now c.loop-part.part-index c.loop-part-test.false (look_view c.loop-part.look) _ _ _ c.in_ok-add_found-2.ensures c.loop-part.invariant.names;
}
