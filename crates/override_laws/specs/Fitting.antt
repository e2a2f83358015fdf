-- What overriding without fault says of the methods of a core program (JLS 8.4.5, 8.4.8).
use Rattle.std.specs.Prelude.{◌≡◌, ℕ, ◌&&◌, true, false, List, Some, slice_get}
use Rattle.std.specs.List.{Contains}
use Rattle.je_core.specs.declared.types.ClassId.{ClassId}
use Rattle.je_core.specs.Core.{CoreMethod, CoreProgram}
use Rattle.je_classes.specs.Dispatch.{same_signature}
use Rattle.je_classes.specs.Hierarchy.{supers_of as core_supers_of}
use Rattle.je_classes.specs.Members.{In}
use Rattle.je_fitting.specs.Expressions.{is_constructor, method_at}
use Rattle.je_fitting.specs.Members.{IsOverridden, StandsFor}
use Rattle.je_scopes.specs.SourceTypes.{SourceTypes, of_class}
use Rattle.source_types.specs.Erasure.{class_numbered}
use Rattle.source_types.specs.Heads.{ClassHead, supers_of}
use Rattle.source_types.specs.Laws.{IsAcyclic}
use Rattle.declarations.specs.Declarations.{DeclaredMethod}
use Rattle.overriding.specs.Methods.{Method, methods_above, methods_in, own_method}
use Rattle.name_typing.specs.Program.{Program}
use Rattle.fitting_laws.specs.Methods.{HasMethods}
use Rattle.fitting_laws.specs.Represented.{IsThere, Represents}
use Rattle.override_laws.specs.Laws.{IsGood}

-- a method of the core program that is declared, by its name
pub record IsOfMethod (program : CoreProgram) (c at : ℕ) (m : DeclaredMethod) (core : CoreMethod) : Type 0 where
  pub there : method_at program (class_numbered c) at ≡ Some core
  pub name : core.name ≡ m.name.name

module _ (p : Program) (program : CoreProgram) where
  -- A method without fault stands for each of its erased signature that a class above declares, unless both are
  -- static.
  abbrev pub OverridesStand : Type 0
  OverridesStand = Represents p program → HasMethods p program →
      (c at : ℕ) (d : DeclaredMethod) → IsThere program c →
      slice_get (methods_in (slice_get p.classes c)) at ≡ Some d → d.is_constructor ≡ false →
      IsGood p.heads p.classes (own_method c at d) →
      (n : Method) → In (methods_above p.heads p.classes c) n →
      (m k : CoreMethod) → IsOfMethod program c at d m → IsOfMethod program n.holder n.place n.declared k →
      same_signature m k ≡ true → (m.flags.is_static && k.flags.is_static) ≡ false → StandsFor program m k

-- ---- all that a method of a fitting class is asked of overriding

-- a method of the core program as it is declared
pub record IsDeclared (p : Program) (c : ClassId) (at : ℕ) (core : CoreMethod) : Type 0 where
  pub method : DeclaredMethod
  pub there : slice_get (methods_in (slice_get p.classes c.0)) at ≡ Some method
  pub name : core.name ≡ method.name.name

-- a class that the header of another one names
pub record IsNamed (heads : List ClassHead) (c : ℕ) (above : ClassId) : Type 0 where
  pub arguments : SourceTypes
  pub there : Contains (supers_of heads c) (of_class above.0 arguments 0)

-- Nothing stands above a class of the core program but what headers name, and no methods but declared ones.
pub record HasNoOthers (p : Program) (program : CoreProgram) : Type 0 where
  pub supers : (c : ℕ) (above : ClassId) → Contains (core_supers_of program (class_numbered c)) above →
      IsNamed p.heads c above
  pub methods : (c : ClassId) (at : ℕ) (m : CoreMethod) → method_at program c at ≡ Some m →
      is_constructor program m ≡ false → IsDeclared p c at m

-- No fault of overriding stands at any method that a class declares.
abbrev pub AreGood : Program → ℕ → Type 0
AreGood p c = (at : ℕ) (d : DeclaredMethod) → slice_get (methods_in (slice_get p.classes c)) at ≡ Some d →
    d.is_constructor ≡ false → IsGood p.heads p.classes (own_method c at d)

module _ (p : Program) (program : CoreProgram) where
  -- A method of a class without fault stands for all that it overrides by its erased signature.
  abbrev pub MethodsOverrideWell : Type 0
  MethodsOverrideWell = Represents p program → HasMethods p program →
      HasNoOthers p program → IsAcyclic p.heads →
      (c : ℕ) → IsThere program c → AreGood p c →
      (at : ℕ) (m : CoreMethod) → method_at program (class_numbered c) at ≡ Some m →
      is_constructor program m ≡ false →
      (above : ClassId) (n : ℕ) (k : CoreMethod) → IsOverridden program (class_numbered c) m above n k →
      StandsFor program m k
