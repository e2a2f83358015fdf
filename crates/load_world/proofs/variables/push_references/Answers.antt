use Rattle.std.proofs.Common.{◌<◌, ◌+◌, [], ◌∷◌, ◌++◌, length, drop, sym, ap, ◌∙◌, append_assoc, arith}
use Rattle.je_load.specs.Loading.{reference, text_references}
use Rattle.load_world.proofs.Statics.{references_step}
use Rattle.load_world.proofs.variables.push_references.Goals as goal

pub loop-place-preserved : goal.loop-place-preserved
loop-place-preserved c =
    let texts = c.args.texts.now in
    let number = c.args.number in
    let place = c.loop-place.place in
    let statics = c.loop-place.statics in
    let rest = text_references (number + (place + 1)) (drop (place + 1) texts) in
    let below : place < length texts = omega (arith, c.loop-place-test.true) in
    ap (λ values. values ++ rest) c.in_ok-push.ensures.ok
    ∙ append_assoc statics (reference (number + place) ∷ []) rest
    ∙ ap (λ values. statics ++ values) (sym (references_step number place texts below))
    ∙ c.loop-place.invariant
