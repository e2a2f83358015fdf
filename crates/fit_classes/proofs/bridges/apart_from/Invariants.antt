use Rattle.std.proofs.Common.{◌≡◌, ◌-◌, length}
use Rattle.std.specs.Prelude.{nat_eq, slice_get}
use Rattle.je_fitting.specs.way.DecidingClasses.{begin_alike}
use Rattle.je_fitting.specs.way.Quantifying.{implies}
use Rattle.fit_classes.proofs.Places.{places_from}
use Rattle.fit_classes.proofs.bridges.apart_from.Given as goal

abbrev pub invariant-loop-j : goal.invariant-loop-j
invariant-loop-j l = places_from (λ j. implies (begin_alike (slice_get l.bridges l.i) (slice_get l.bridges j)) (nat_eq l.i j)) l.j (length l.bridges - l.j) ≡ places_from (λ j. implies (begin_alike (slice_get l.bridges l.i) (slice_get l.bridges j)) (nat_eq l.i j)) 0 (length l.bridges)
