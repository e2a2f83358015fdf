use Rattle.std.proofs.Common.{◌≡◌, List, [], drop, map, sym, ap, ◌∙◌, arith}
use Rattle.std.proofs.lemmas.List.{take_rest}
use Rattle.name_types.specs.declared.types.SrcTy.{SrcTy}
use Rattle.name_types.specs.View.{shown}
use Rattle.source_types.specs.way.Reaching.{gone_up}
use Rattle.source_subtypes.specs.View.{heads_of}
use Rattle.source_subtypes.proofs.Climbing.{drop-map, past-nothing}
use Rattle.source_subtypes.proofs.above.go_up.Goals as goal

pub returns : goal.returns
returns c =
    let hs = heads_of c.args.heads.now in
    let none : drop c.loop-here.here-index c.deref-here-items.result.now ≡ [] = past-nothing c.loop-here.here-index c.deref-here-items.result.now (omega (arith, c.loop-here-test.false)) in
    ap (λ (ts : List SrcTy). gone_up hs (map shown c.loop-here.met.items) (map shown ts)) (sym none) ∙ c.loop-here.invariant
    ∙ ap (gone_up hs (map shown c.args.met.now.items)) (ap (map shown) c.deref-here-items.ensures.value ∙ c.in_ok-new.ensures ∙ ap (map shown) (take_rest c.deref.result.now c.args.from)
    ∙ ap (λ (ts : List SrcTy). map shown (drop c.args.from ts)) c.deref.ensures.value ∙ drop-map shown c.args.from c.args.met.now.items)
