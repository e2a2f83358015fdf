-- What overriding without fault says of methods with one name and erasure (JLS 8.4.2, 8.4.8).
use Rattle.std.specs.Prelude.{◌≡◌, true, false, List}
use Rattle.je_classes.specs.Members.{In}
use Rattle.source_types.specs.Heads.{ClassHead}
use Rattle.declarations.specs.Declarations.{DeclaredClass}
use Rattle.je_typing.specs.Judged.{gives}
use Rattle.overriding.specs.Methods.{Method, is_subsignature, methods_above}
use Rattle.overriding.specs.Overrides.{good_override, have_one_erasure, may_override, no_clash, own_before}

-- No fault of overriding stands at a method that a class declares.
pub record IsGood (heads : List ClassHead) (classes : List DeclaredClass) (m : Method) : Type 0 where
  pub overrides : good_override heads classes m ≡ gives tt
  pub clashes : no_clash heads classes m ≡ gives tt

module _ (heads : List ClassHead) (classes : List DeclaredClass) where
  -- A method above its class that has its name and erasure is overridden, and may be.
  abbrev pub OneErasureOverrides : Type 0
  OneErasureOverrides = (m n : Method) → IsGood heads classes m → In (methods_above heads classes m.holder) n →
      have_one_erasure heads m.declared n.declared ≡ true →
      (is_subsignature heads m n ≡ true) × (may_override heads m n ≡ true)

  -- None that its class declares before it has its name and erasure.
  abbrev pub OwnErasuresDiffer : Type 0
  OwnErasuresDiffer = (m n : Method) → IsGood heads classes m → In (own_before classes m) n →
      have_one_erasure heads m.declared n.declared ≡ false
