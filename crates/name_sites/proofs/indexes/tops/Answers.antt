use Rattle.std.proofs.Common.{ℕ, List, ◌∙◌, ap, arith}
use Rattle.je_scopes.specs.Headers.{top_of}
use Rattle.name_walk.specs.View.{sites_of}
use Rattle.name_sites.specs.Tops.{top_beside}
use Rattle.name_sites.proofs.Tops.{one_more, top_step}
use Rattle.name_sites.proofs.indexes.tops.Goals as goal

pub loop-at-preserved : goal.loop-at-preserved
loop-at-preserved c = one_more (top_of (sites_of c.args.classes.now)) c.loop-at.tops.items _ c.top_beside-top.result c.loop-at.at c.in_ok-push.ensures.items c.loop-at.invariant.0 c.loop-at.invariant.1
    (c.top_beside-top.ensures ∙ ap (λ (ts : List ℕ). top_beside ts c.index-classes-at.result.spot.within c.loop-at.at) c.as_slice.ensures.value ∙ top_step c.args.classes.now c.loop-at.tops.items c.loop-at.at c.index-classes-at.result c.requires.earlier (omega arith) c.index-classes-at.is c.loop-at.invariant.1)
