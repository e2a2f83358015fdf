-- When a core program has the methods that the classes of a program declare.
use Rattle.std.specs.Prelude.{◌≡◌, ℕ, ◌||◌, true, false, List, [], map, Some, slice_get}
use Rattle.je_core.specs.declared.types.Base.TheVariants as base
use Rattle.je_core.specs.Core.{CoreMethod, CoreProgram}
use Rattle.je_classes.specs.Members.{In}
use Rattle.je_fitting.specs.Expressions.{is_constructor, method_at}
use Rattle.je_scopes.specs.Headers.{is_guest, site_at}
use Rattle.je_scopes.specs.SourceTypes.{SourceType, plain}
use Rattle.source_types.specs.Erasure.{class_numbered, erased}
use Rattle.source_types.specs.Heads.{ClassHead}
use Rattle.declarations.specs.Declarations.{DeclaredMethod}
use Rattle.overriding.specs.Methods.{Method, has_within, is_private, methods_in}
use Rattle.name_typing.specs.Program.{Program}
use Rattle.call_typing.specs.Constructors.{constructors_of, default_place}
use Rattle.fitting_laws.specs.Sound.{IsSound}

-- a method of the core program at its place, with the erasures of its types
pub record MethodStands (program : CoreProgram) (heads : List ClassHead) (c at : ℕ) (m : DeclaredMethod) : Type 0 where
  pub method : CoreMethod
  pub there : method_at program (class_numbered c) at ≡ Some method
  pub params : method.params ≡ map (erased heads) m.parameters
  pub returns : method.returns ≡ erased heads m.result
  pub flags : method.flags ≡ m.flags
  pub is_constructor : is_constructor program method ≡ m.is_constructor

-- the type of a result, or `void`
pub data IsResult (program : CoreProgram) (heads : List ClassHead) (most : ℕ) : SourceType → Type 0 where
  a_result : {t : SourceType} → IsSound program heads most t → IsResult program heads most t
  no_result : IsResult program heads most (plain base.Void 0)

-- a method's types, as a class sees them
pub record MethodIsSound (program : CoreProgram) (heads : List ClassHead) (m : Method) : Type 0 where
  pub parameters : (t : SourceType) → In m.parameters t → IsSound program heads 254 t
  pub result : IsResult program heads 254 m.result

-- The core program has the methods and constructors of the classes at their places, and the types of those that a
-- class has are sound. A static method and a private one have a body.
pub record HasMethods (p : Program) (program : CoreProgram) : Type 0 where
  pub methods : (c at : ℕ) (m : DeclaredMethod) → slice_get (methods_in (slice_get p.classes c)) at ≡ Some m →
      MethodStands program p.heads c at m
  pub sound : (n c : ℕ) (m : Method) → In (has_within p.heads p.classes n c) m → MethodIsSound program p.heads m
  pub parameters : (c at : ℕ) (m : DeclaredMethod) → slice_get (methods_in (slice_get p.classes c)) at ≡ Some m →
      (t : SourceType) → In m.parameters t → IsSound program p.heads 254 t
  pub concrete : (c at : ℕ) (m : DeclaredMethod) → slice_get (methods_in (slice_get p.classes c)) at ≡ Some m →
      (m.flags.is_static || is_private m.flags.access) ≡ true → m.flags.is_abstract ≡ false

-- the default constructor of a class of a program that declares none (JLS 8.8.9)
pub record DefaultStands (p : Program) (program : CoreProgram) (c : ℕ) : Type 0 where
  pub method : CoreMethod
  pub there : method_at program (class_numbered c) (default_place p.classes c) ≡ Some method
  pub params : method.params ≡ []
  pub is_constructor : is_constructor program method ≡ true

-- where it is asked for
abbrev pub HasDefault : Program → CoreProgram → ℕ → Type 0
HasDefault p program c = is_guest (site_at p.source.sites c).written ≡ true → constructors_of p.classes c ≡ [] →
    DefaultStands p program c
