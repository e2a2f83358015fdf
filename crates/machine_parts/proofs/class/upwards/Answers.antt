use Rattle.std.proofs.Common.{◌-◌, ◌++◌, [], ◌∷◌, sym, ap, ◌∙◌, arith}
use Rattle.je_core.specs.View.{program_view}
use Rattle.je_classes.specs.Slots.{fields_upwards}
use Rattle.machine_parts.specs.way.Slots.{fields_along}
use Rattle.machine_parts.proofs.Slots.{up_more}
use Rattle.machine_parts.proofs.class.upwards.Goals as goal

pub loop-left-preserved : goal.loop-left-preserved
loop-left-preserved c =
    let p = program_view c.args.program.now in
    let n = c.loop-left.left in
    let at = c.in-Some.at in
    let path = c.loop-left.path.items in
    ap (λ xs. fields_upwards p (n - 1) c.superclass-above.result ++ fields_along p xs) c.in_ok-push.ensures.items
    ∙ ap (λ o. fields_upwards p (n - 1) o ++ fields_along p (path ++ at ∷ [])) c.superclass-above.ensures
    ∙ up_more p n at path (omega (arith, c.loop-left-test.true))
    ∙ ap (λ o. fields_upwards p n o ++ fields_along p path) (sym c.in-Some.is)
    ∙ c.loop-left.invariant
