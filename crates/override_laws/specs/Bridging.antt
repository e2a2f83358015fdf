-- What overriding without fault says of methods with other erased parameters: the one fits a bridge for the other
-- (JLS 8.4.8, 15.12.4.5).
use Rattle.std.specs.Prelude.{◌≡◌, ℕ, ◌&&◌, true, false, Some, slice_get}
use Rattle.je_base.specs.declared.span.Span.{Span}
use Rattle.je_core.specs.Core.{CoreMethod, CoreProgram}
use Rattle.je_classes.specs.Members.{In, same_name}
use Rattle.je_fitting.specs.Classes.{same_places}
use Rattle.je_fitting.specs.Members.{results_agree}
use Rattle.declarations.specs.Declarations.{DeclaredMethod}
use Rattle.je_typing.specs.Judged.{gives}
use Rattle.overriding.specs.Methods.{Method, inherited, is_subsignature, methods_above, methods_in, own_method}
use Rattle.overriding.specs.Overrides.{all_implemented, is_abstract_class}
use Rattle.name_typing.specs.Program.{Program}
use Rattle.fitting_laws.specs.Methods.{HasMethods}
use Rattle.fitting_laws.specs.Represented.{IsThere, Represents}
use Rattle.override_laws.specs.Fitting.{IsOfMethod}
use Rattle.override_laws.specs.Inherited.{InheritsWell}
use Rattle.override_laws.specs.Laws.{IsGood}

-- what a bridge asks of its method, for another one: no static one, a body, one name, parameters of the same places,
-- and a result that agrees
pub record BridgesWell (program : CoreProgram) (m k : CoreMethod) : Type 0 where
  pub own : m.flags.is_static ≡ false
  pub above : k.flags.is_static ≡ false
  pub concrete : m.flags.is_abstract ≡ false
  pub name : same_name k.name m.name ≡ true
  pub params : same_places k.params m.params ≡ true
  pub result : results_agree program m.returns k.returns ≡ true

module _ (p : Program) (program : CoreProgram) where
  -- A method without fault, with a body, fits a bridge for each that it overrides, unless both are static.
  abbrev pub OverridesBridge : Type 0
  OverridesBridge = Represents p program → HasMethods p program →
      (c at : ℕ) (d : DeclaredMethod) → IsThere program c →
      slice_get (methods_in (slice_get p.classes c)) at ≡ Some d → d.is_constructor ≡ false →
      IsGood p.heads p.classes (own_method c at d) → d.flags.is_abstract ≡ false →
      (n : Method) → In (methods_above p.heads p.classes c) n → is_subsignature p.heads (own_method c at d) n ≡ true →
      (m k : CoreMethod) → IsOfMethod program c at d m → IsOfMethod program n.holder n.place n.declared k →
      (m.flags.is_static && k.flags.is_static) ≡ false → BridgesWell program m k

  -- an inherited method that fits a bridge for another one
  pub record IsImplemented (c : ℕ) (n : Method) : Type 0 where
    pub by : Method
    pub there : In (inherited p.heads p.classes c) by
    pub bridges : (m k : CoreMethod) → IsOfMethod program by.holder by.place by.declared m →
        IsOfMethod program n.holder n.place n.declared k → (m.flags.is_static && k.flags.is_static) ≡ false →
        BridgesWell program m k

  -- Each abstract method that a class without fault inherits that isn't abstract is implemented by one that it inherits.
  abbrev pub InheritedAreImplemented : Type 0
  InheritedAreImplemented = Represents p program → HasMethods p program → (c : ℕ) → InheritsWell p.heads p.classes c →
      is_abstract_class (slice_get p.classes c) ≡ false →
      (span : Span) → all_implemented p.heads p.classes c span ≡ gives tt →
      (n : Method) → In (inherited p.heads p.classes c) n → n.is_abstract ≡ true → IsImplemented c n
