-- One initializer, and then the others; and none.
use Rattle.std.proofs.Common.{◌≡◌, ℕ, [], ◌∷◌, drop, sym, ap}
use Rattle.je_core.specs.declared.types.ClassId.{ClassId}
use Rattle.je_core.specs.Core.{CoreInitializer, CoreStmtForm, CoreProgram}
use Rattle.je_classes.specs.Hierarchy.{class_at}
use Rattle.je_java.specs.Constructors.{instance_initializers, parts_of}
use Rattle.je_java.specs.Meaning.{Meanings, block, initialized, run_initializer, run_initializers}
use Rattle.je_java.specs.Steps.{State, bind, seq, ret, framed, get_this}
use Rattle.machine_parts.specs.Ways.{Ways, ended}

module _ (p : CoreProgram) (m : Meanings) (class : ClassId) (form : CoreStmtForm) (at next : ℕ) (k : Ways) (s : State) where
  pub one_first : (place : ℕ) (initializer : CoreInitializer) →
      instance_initializers (class_at p class) at ≡ initializer ∷ instance_initializers (class_at p class) place →
      run_initializer m s.own.this initializer (λ dropped. ended (initialized p m class form place next) k) k.out s ≡ ended (initialized p m class form at next) k s
  unfolding bind seq ret framed get_this
  one_first place initializer e = ap (λ is. run_initializers m s.own.this is (λ u. block m (drop next (parts_of form)) k.next k.out) k.out s) (sym e)

  pub none_left : instance_initializers (class_at p class) at ≡ [] → ended (block m (drop next (parts_of form))) k s ≡ ended (initialized p m class form at next) k s
  unfolding bind seq ret get_this
  none_left e = ap (λ is. run_initializers m s.own.this is (λ u. block m (drop next (parts_of form)) k.next k.out) k.out s) (sym e)
