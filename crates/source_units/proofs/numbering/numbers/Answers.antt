-- Each turn gives one name more its number.
use Rattle.source_units.proofs.Interning.{goes_on, goes_on_few}
use Rattle.source_units.proofs.numbering.numbers.Goals as goal

pub loop-at-preserved : goal.loop-at-preserved
loop-at-preserved c =
    let old = c.args.names.now in
    let own = c.args.own.now in
    let names = c.loop-at.names in
    let at = c.loop-at.at in (
      rw (c.in_ok-number.ensures.names, c.in_ok-push.ensures.items)
          (goes_on old own names at c.text_at.result.now c.loop-at.numbers.items c.in_ok-number.number c.text_at.ensures
          (rw (← c.in_ok-number.ensures.names) c.in_ok-number.ensures.found) c.loop-at.invariant.0),
      rw c.in_ok-number.ensures.names (goes_on_few old own names at c.text_at.result.now c.loop-at.invariant.1),
    )
