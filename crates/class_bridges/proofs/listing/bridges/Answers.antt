use Rattle.std.proofs.Common.{rules, ◌≡◌, map, sym, ap, subst, ◌∙◌}
use Rattle.class_heads.specs.View.{classes_of}
use Rattle.overriding.specs.Methods.{methods_above}
use Rattle.class_methods.specs.Above.{HasSame}
use Rattle.class_methods.specs.View.{method_seen}
use Rattle.source_subtypes.specs.View.{heads_of}
use Rattle.class_bridges.proofs.ByPlace.{all_bridges}
use Rattle.class_bridges.proofs.listing.bridges.Goals as goal

pub returns : goal.returns
returns c =
    let methods : c.deref.result.now ≡ c.in_ok-methods.methods.items = search rules in
    let above : c.deref-2.result.now ≡ c.in_ok-above.above.items = search rules in
    c.in_ok-bridges.ensures.bridges
    ∙ all_bridges (heads_of c.args.heads.now) (classes_of c.args.classes) c.args.class.0 (map method_seen c.deref-2.result.now)
    (subst (λ ms. HasSame (map method_seen ms) (methods_above (heads_of c.args.heads.now) (classes_of c.args.classes) c.args.class.0))
    (sym above) c.in_ok-above.ensures)
    (map method_seen c.deref.result.now) c.in_ok-found.found (ap (map method_seen) methods ∙ c.in_ok-methods.ensures)
    c.in_ok-bridges.ensures.ordered c.in_ok-found.ensures
