use Rattle.std.proofs.Common.{ℕ, Bool, length, sym, ◌∙◌, arith}
use Rattle.std.specs.Prelude.{nat_eq, slice_get}
use Rattle.je_fitting.specs.way.DecidingClasses.{begin_alike}
use Rattle.je_fitting.specs.way.Quantifying.{implies}
use Rattle.fit_classes.proofs.Places.{all_places, no_place_left}
use Rattle.fit_classes.proofs.bridges.apart_from.Goals as goal

pub returns : goal.returns
returns c =
    let n = length c.args.bridges.now in
    let test : ℕ → Bool = λ j. implies
    (begin_alike (slice_get c.args.bridges.now c.args.i) (slice_get c.args.bridges.now j)) (nat_eq c.args.i j) in
    sym (all_places test n ∙ sym c.loop-j.invariant ∙ no_place_left test c.loop-j.j n (omega arith))
