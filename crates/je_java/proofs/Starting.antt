-- Where a class has been started, its start is over at once.
use Rattle.std.proofs.Common.{◌≡◌, ℕ, zero, suc, length, List, ◌∷◌, Option, Some, None, refl, ap}
use Rattle.std.specs.Prelude.{true, if◌then◌else◌, Bool}
use Rattle.je_core.specs.declared.types.ClassId.{ClassId}
use Rattle.je_core.specs.declared.value.Value.{Value}
use Rattle.je_core.specs.declared.value.Value.TheVariants.{Null}
use Rattle.je_core.specs.Core.{Core, CoreProgram, form_of, ty_of}
use Rattle.je_java.specs.Subclasses.{superclass_of, upwards_within}
use Rattle.je_java.specs.Steps.{State, Run, Nothing, Exits, is_started, AllStarted, ret, bind, seq, get_started, put_started, initializing}
use Rattle.je_java.specs.Meaning.{Meanings, static_initializers, run_initializers, start_first, start, started_by, start_if, eval_form, eval_node}
use Rattle.je_classes.specs.Hierarchy.{class_at}

module _ (p : CoreProgram) (m : Meanings) (go : Nothing → Run) (x : Exits) (s : State) where
  first-idle : (class : ClassId) (above : List ClassId) → is_started s.outside class ≡ true → start_first p m (class ∷ above) go x s ≡ go tt s
  unfolding ret bind get_started
  first-idle class above h = ap (λ (b : Bool). (if b then ret tt else (seq (put_started class) (seq (start_first p m above) (initializing class (run_initializers m Null (static_initializers (class_at p class))))))) go x s) h

  within-idle : (n : ℕ) (class : ClassId) → is_started s.outside class ≡ true → start_first p m (upwards_within p n (Some class)) go x s ≡ go tt s
  unfolding ret
  within-idle zero class h = refl
  within-idle (suc n) class h = first-idle class (upwards_within p n (superclass_of p class)) h

  pub start_idle : (class : ClassId) → is_started s.outside class ≡ true → start p m class go x s ≡ go tt s
  unfolding start
  start_idle class h = within-idle (length p.classes) class h

  pub start_if-idle : (class : Option ClassId) → AllStarted s.outside → start_if p m class go x s ≡ go tt s
  unfolding ret
  start_if-idle None h = refl
  start_if-idle (Some class) h = start_idle class (h class)

-- so a node goes on with its form
pub node_idle : (p : CoreProgram) (m : Meanings) (e : Core) (go : Value → Run) (x : Exits) (s : State) → AllStarted s.outside →
    eval_node p m e go x s ≡ eval_form p m (ty_of e) (form_of e) go x s
unfolding seq
node_idle p m e go x s h = start_if-idle p m (λ u. eval_form p m (ty_of e) (form_of e) go x) x s (started_by p (form_of e)) h
