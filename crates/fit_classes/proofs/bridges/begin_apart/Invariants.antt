use Rattle.std.proofs.Common.{◌≡◌, ◌-◌, length}
use Rattle.std.specs.Prelude.{nat_eq, slice_get}
use Rattle.std.specs.List.{list_all}
use Rattle.je_fitting.specs.Expressions.{places_up_to}
use Rattle.je_fitting.specs.way.DecidingClasses.{begin_alike}
use Rattle.je_fitting.specs.way.Quantifying.{implies}
use Rattle.fit_classes.proofs.Places.{places_from}
use Rattle.fit_classes.proofs.bridges.begin_apart.Given as goal

abbrev pub invariant-loop-i : goal.invariant-loop-i
invariant-loop-i l = places_from (λ i. list_all (λ j. implies (begin_alike (slice_get l.bridges i) (slice_get l.bridges j)) (nat_eq i j)) (places_up_to (length l.bridges))) l.i (length l.bridges - l.i) ≡ places_from (λ i. list_all (λ j. implies (begin_alike (slice_get l.bridges i) (slice_get l.bridges j)) (nat_eq i j)) (places_up_to (length l.bridges))) 0 (length l.bridges)
