-- How the start of a class goes on: over at once where it has been started, and else with the class above it.
use Rattle.std.proofs.Common.{◌≡◌, ℕ, zero, suc, ◌<◌, ◌-◌, List, ◌∷◌, Option, Some, None, refl, sym, ap, ◌∙◌, arith}
use Rattle.std.specs.Prelude.{Bool, true, false, if◌then◌else◌}
use Rattle.je_core.specs.declared.types.ClassId.{ClassId}
use Rattle.je_core.specs.declared.value.Value.TheVariants.{Null}
use Rattle.je_core.specs.Core.{CoreProgram}
use Rattle.je_classes.specs.Hierarchy.{class_at}
use Rattle.je_java.specs.Subclasses.{superclass_of, upwards_within}
use Rattle.je_java.specs.Steps.{State, Run, Nothing, Exits, is_started, with_started, with_outside, ret, bind, seq, get_started, put_started, initializing}
use Rattle.je_java.specs.Meaning.{Meanings, static_initializers, run_initializers, start_first}
use Rattle.machine_parts.specs.Starts.{initialize_all}

module _ (p : CoreProgram) (m : Meanings) (x : Exits) (s : State) where
  first_is : (class : ClassId) (above : List ClassId) (go : Nothing → Run) (b : Bool) → is_started s.outside class ≡ b →
      start_first p m (class ∷ above) go x s ≡ (if b then go tt s else start_first p m above (λ u. initializing class (run_initializers m Null (static_initializers (class_at p class))) go x) x (with_outside s (with_started s.outside class)))
  unfolding ret bind seq get_started put_started
  first_is class above go true e = ap (λ (b : Bool). (if b then ret tt else (seq (put_started class) (seq (start_first p m above) (initializing class (run_initializers m Null (static_initializers (class_at p class))))))) go x s) e
  first_is class above go false e = ap (λ (b : Bool). (if b then ret tt else (seq (put_started class) (seq (start_first p m above) (initializing class (run_initializers m Null (static_initializers (class_at p class))))))) go x s) e

  none_above : (n : ℕ) (go : Nothing → Run) → start_first p m (upwards_within p n None) go x s ≡ go tt s
  unfolding ret
  none_above zero go = refl
  none_above (suc n) go = refl

  pub not_above : (n : ℕ) (above : Option ClassId) (go : Nothing → Run) → ((class : ClassId) → above ≡ Some class → ⊥) → start_first p m (upwards_within p n above) go x s ≡ go tt s
  not_above n None go h = none_above n go
  not_above n (Some class) go h = absurd (h class refl)

  pub nothing_left : (above : Option ClassId) (go : Nothing → Run) → start_first p m (upwards_within p zero above) go x s ≡ go tt s
  unfolding ret
  nothing_left above go = refl

  pub over_at_once : (n : ℕ) (class : ClassId) (go : Nothing → Run) → is_started s.outside class ≡ true → start_first p m (upwards_within p n (Some class)) go x s ≡ go tt s
  unfolding ret
  over_at_once zero class go e = refl
  over_at_once (suc n) class go e = first_is class (upwards_within p n (superclass_of p class)) go true e

  pub marked : (n : ℕ) (class : ClassId) (path : List ClassId) (go : Run) → 0 < n → is_started s.outside class ≡ false →
      start_first p m (upwards_within p (n - 1) (superclass_of p class)) (λ u. initialize_all p m (class ∷ path) go) x (with_outside s (with_started s.outside class)) ≡
      start_first p m (upwards_within p n (Some class)) (λ u. initialize_all p m path go) x s
  unfolding initializing
  marked zero class path go l e = absurd (omega arith)
  marked (suc n) class path go l e =
      let k : n ≡ suc n - 1 = omega arith in
      sym (first_is class (upwards_within p n (superclass_of p class)) (λ u. initialize_all p m path go) false e
      ∙ ap (λ i. start_first p m (upwards_within p i (superclass_of p class)) (λ u. initialize_all p m (class ∷ path) go) x (with_outside s (with_started s.outside class))) k)
