-- The initializers of classes that start: the first of a class, the next, and what comes where none is left.
use Rattle.std.proofs.Common.{◌≡◌, ℕ, ◌+◌, List, [], ◌∷◌, drop, Option, Some, None, refl, sym, ap, ◌∙◌}
use Rattle.std.specs.Prelude.{true}
use Rattle.je_core.specs.declared.types.ClassId.{ClassId}
use Rattle.je_core.specs.declared.value.Value.TheVariants.{Null}
use Rattle.je_core.specs.Core.{CoreClass, CoreInitializer, CoreProgram}
use Rattle.je_classes.specs.Hierarchy.{class_at}
use Rattle.je_java.specs.Constructors.{initializers_in}
use Rattle.je_java.specs.Meaning.{Meanings, static_initializers, run_initializer, run_initializers}
use Rattle.je_java.specs.Steps.{State, Run, ret, bind, seq, initializing, out_of_start, with_starting}
use Rattle.machine_parts.specs.Starts.{static_from, initialize_all, initialize_from}
use Rattle.machine_parts.specs.way.Clauses.{from_first}

from_the_first : (class : Option CoreClass) → static_initializers class ≡ static_from class 0
from_the_first None = refl
from_the_first (Some class) = refl

module _ (p : CoreProgram) (m : Meanings) (class : ClassId) (classes : List ClassId) (go : Run) (s : State) where
  -- the class without its initializers, as they stand
  with_these : (these : List CoreInitializer) → static_from (class_at p class) 0 ≡ these →
      initializing class (run_initializers m Null these) (λ u. initialize_all p m classes go) (out_of_start class) s ≡ initialize_all p m (class ∷ classes) go s
  with_these these e = ap (λ is. initializing class (run_initializers m Null is) (λ u. initialize_all p m classes go) (out_of_start class) s) (sym e ∙ sym (from_the_first (class_at p class)))

  pub none_of_it : static_from (class_at p class) 0 ≡ [] → initialize_all p m classes go s ≡ initialize_all p m (class ∷ classes) go s
  unfolding ret initializing
  none_of_it e = with_these [] e

  pub first_of_it : (place : ℕ) → static_from (class_at p class) 0 ≡ from_first true (drop place (initializers_in (class_at p class))) →
      initializing class (run_initializers m Null (from_first true (drop place (initializers_in (class_at p class))))) (λ u. initialize_all p m classes go) (out_of_start class) s ≡
      initialize_all p m (class ∷ classes) go s
  first_of_it place e = with_these (from_first true (drop place (initializers_in (class_at p class)))) e

  -- the initializer at a place of a class, which is innermost from then on
  pub begins : (place : ℕ) (initializer : CoreInitializer) → drop place (initializers_in (class_at p class)) ≡ initializer ∷ drop (place + 1) (initializers_in (class_at p class)) →
      run_initializer m Null initializer (λ dropped. initialize_from p m class (place + 1) s.outside.starting classes go) (out_of_start class) (with_starting s (Some class)) ≡
      initializing class (run_initializers m Null (from_first true (drop place (initializers_in (class_at p class))))) (λ u. initialize_all p m classes go) (out_of_start class) s
  unfolding bind seq initializing
  begins place initializer e = ap (λ is. initializing class (run_initializers m Null (from_first true is)) (λ u. initialize_all p m classes go) (out_of_start class) s) (sym e)

  module _ (at : ℕ) (outer : Option ClassId) where
    pub goes_on : (place : ℕ) (initializer : CoreInitializer) → static_from (class_at p class) at ≡ initializer ∷ static_from (class_at p class) (place + 1) →
        run_initializer m Null initializer (λ dropped. initialize_from p m class (place + 1) outer classes go) (out_of_start class) s ≡ initialize_from p m class at outer classes go s
    unfolding bind seq
    goes_on place initializer e = ap (λ is. run_initializers m Null is (λ u t. initialize_all p m classes go (with_starting t outer)) (out_of_start class) s) (sym e)

    pub none_further : static_from (class_at p class) at ≡ [] → initialize_all p m classes go (with_starting s outer) ≡ initialize_from p m class at outer classes go s
    unfolding ret
    none_further e = ap (λ is. run_initializers m Null is (λ u t. initialize_all p m classes go (with_starting t outer)) (out_of_start class) s) (sym e)
