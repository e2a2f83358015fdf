use Rattle.std.proofs.Common.{◌≡◌, ℕ, ◌<◌, Bool, true, List, length, sym, ◌∙◌, arith}
use Rattle.std.specs.Prelude.{nat_eq, slice_get}
use Rattle.std.specs.List.{list_all}
use Rattle.je_core.specs.declared.program.Bridge.{Bridge}
use Rattle.je_fitting.specs.Expressions.{places_up_to}
use Rattle.je_fitting.specs.way.DecidingClasses.{begin_alike}
use Rattle.je_fitting.specs.way.Quantifying.{implies}
use Rattle.fit_classes.proofs.Places.{all_places, place_passes, no_place_left}
use Rattle.fit_classes.proofs.bridges.begin_apart.Goals as goal

-- no other bridge begins with the method of the one at a place
abbrev test_of : List Bridge → ℕ → Bool
test_of bs i = list_all (λ j. implies (begin_alike (slice_get bs i) (slice_get bs j)) (nat_eq i j)) (places_up_to (length bs))

pub loop-i-preserved : goal.loop-i-preserved
loop-i-preserved c =
    let bs = c.args.bridges.now in
    let within : c.loop-i.i < length bs = omega arith in
    let passes : test_of bs c.loop-i.i ≡ true = grind (arith, c.if-not-apart_from.false, c.apart_from.ensures) in
    sym (place_passes (test_of bs) c.loop-i.i (length bs) within passes) ∙ c.loop-i.invariant

pub returns : goal.returns
returns c =
    let bs = c.args.bridges.now in
    sym (all_places (test_of bs) (length bs) ∙ sym c.loop-i.invariant
    ∙ no_place_left (test_of bs) c.loop-i.i (length bs) (omega arith))
