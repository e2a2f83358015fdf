-- The laws on new objects (JLS 15.9).
use Rattle.std.specs.Prelude.{◌≡◌, ℕ, true, false, List, [], map, Some, None, slice_get}
use Rattle.je_base.specs.declared.span.Span.{Span}
use Rattle.je_core.specs.Core.{CoreCapture, CoreClass, CoreMethod, CoreProgram}
use Rattle.je_classes.specs.Hierarchy.{class_at}
use Rattle.je_fitting.specs.Expressions.{Body, CapturesFit, can_be_made, is_constructor, method_at}
use Rattle.je_scopes.specs.SourceTypes.{SourceType}
use Rattle.source_types.specs.Erasure.{class_numbered, erased}
use Rattle.source_types.specs.Subtypes.{dims_of}
use Rattle.declarations.specs.Declarations.{DeclaredMethod}
use Rattle.header_typing.specs.Supers.{class_in, is_interface}
use Rattle.je_typing.specs.Judged.{gives}
use Rattle.je_typing.specs.Typed.{TypedNode}
use Rattle.overriding.specs.Methods.{methods_in}
use Rattle.name_typing.specs.Program.{Place, Program}
use Rattle.call_typing.specs.Constructors.{constructor_for, default_place}
use Rattle.call_typing.specs.Creations.{anonymous_creation, creation, made_of}
use Rattle.call_typing.specs.Overloads.{Candidate}
use Rattle.typing_laws.specs.Fitting.{Gives}
use Rattle.fitting_laws.specs.Calls.{ArgumentsFit}
use Rattle.fitting_laws.specs.Methods.{HasDefault, HasMethods}
use Rattle.fitting_laws.specs.Represented.{Represents}
use Rattle.fitting_laws.specs.Sound.{IsSound}
use Rattle.fitting_laws.specs.Values.{IsValue}

-- a type of which objects are made: it has no dimensions, its class has its default constructor where it declares
-- none, and what new objects get from round it fits
pub record CanBeMade (p : Program) (program : CoreProgram) (body : Body) (captures : List CoreCapture)
    (t : SourceType) : Type 0 where
  pub sound : IsSound program p.heads 255 t
  pub flat : dims_of t ≡ 0
  pub default : (c : ℕ) → class_in t ≡ Some c → is_interface p.heads t ≡ false → HasDefault p program c
  pub handed_over : (c : ℕ) → class_in t ≡ Some c → CapturesFit program body (class_numbered c) captures

-- a class with a body behind `new`: it can be made, and its constructor takes what the one takes that is chosen
pub record AnonymousStands (p : Program) (program : CoreProgram) (c : ℕ) : Type 0 where
  pub class : CoreClass
  pub there : class_at program (class_numbered c) ≡ Some class
  pub made : can_be_made class ≡ true

pub record HandsOn (p : Program) (program : CoreProgram) (c : ℕ) (m : Candidate) : Type 0 where
  pub method : CoreMethod
  pub there : method_at program (class_numbered c) (default_place p.classes c) ≡ Some method
  pub is_constructor : is_constructor program method ≡ true
  pub declared : (d : DeclaredMethod) → slice_get (methods_in (slice_get p.classes m.class)) m.place ≡ Some d →
      method.params ≡ map (erased p.heads) d.parameters
  pub default : slice_get (methods_in (slice_get p.classes m.class)) m.place ≡ None → method.params ≡ []

module _ (p : Program) (program : CoreProgram) (body : Body) where
  abbrev pub CreationsFit : Type 0
  CreationsFit = (place : Place) (t : SourceType) (word name_span span : Span) (args : List TypedNode)
      (captures : List CoreCapture) → Represents p program → HasMethods p program →
      CanBeMade p program body captures t →
      ArgumentsFit program body p.heads args →
      Gives (IsValue program body p.heads) (creation p place t word name_span span args captures)

  abbrev pub AnonymousCreationsFit : Type 0
  AnonymousCreationsFit = (place : Place) (c : ℕ) (t : SourceType) (word name_span span : Span) (args : List TypedNode)
      (captures : List CoreCapture) → Represents p program → HasMethods p program → AnonymousStands p program c →
      IsSound program p.heads 255 t →
      ((d : ℕ) → class_in (made_of p t) ≡ Some d → HasDefault p program d) →
      ((m : Candidate) → constructor_for p place.here.class (made_of p t) name_span args ≡ gives m →
      HandsOn p program c m) →
      CapturesFit program body (class_numbered c) captures → ArgumentsFit program body p.heads args →
      Gives (IsValue program body p.heads) (anonymous_creation p place c t word name_span span args captures)
