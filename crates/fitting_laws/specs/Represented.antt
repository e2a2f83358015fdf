-- When a core program has what the classes of a program declare, and where a body of the core program stands.
use Rattle.std.specs.Prelude.{◌≡◌, ℕ, suc, ◌||◌, true, false, List, [], ◌∷◌, Some, None, slice_get, is_some, codes}
use Rattle.je_base.specs.declared.span.NameId.{NameId}
use Rattle.je_core.specs.declared.types.Base.{Base}
use Rattle.je_core.specs.declared.value.Value.{Value}
use Rattle.je_core.specs.Core.{CoreClass, CoreField, CoreProgram}
use Rattle.je_ast.specs.declared.name.Identifier.{Identifier}
use Rattle.je_classes.specs.Hierarchy.{class_at, library_class as library_class_of, object_class, supers_of}
use Rattle.je_classes.specs.Members.{In, Member}
use Rattle.je_classes.specs.Subtypes.{class_type}
use Rattle.je_fitting.specs.Expressions.{Body, field_at, is_interface_sort}
use Rattle.je_fitting.specs.Types.{of, type_of_value}
use Rattle.je_scopes.specs.Looks.{a_class}
use Rattle.je_scopes.specs.Scope.{member_class}
use Rattle.je_scopes.specs.Settled.{settled}
use Rattle.je_scopes.specs.Source.{library_class}
use Rattle.je_scopes.specs.SourceTypes.{SourceType, plain}
use Rattle.source_types.specs.Erasure.{class_numbered, erased}
use Rattle.source_types.specs.Heads.{ClassHead, head_at}
use Rattle.declarations.specs.Declarations.{DeclaredField}
use Rattle.je_typing.specs.Typed.{string_type}
use Rattle.typing_laws.specs.Correspondence.{HasHeads}
use Rattle.name_typing.specs.Fields.{field_at as declared_at}
use Rattle.name_typing.specs.Instances.{is_instance}
use Rattle.name_typing.specs.Program.{Constant, Frame, LocalVariable, Place, Program, frames, text_constant}
use Rattle.name_typing.specs.Program.{value_constant}
use Rattle.name_typing.specs.Qualified.{class_named}
use Rattle.name_typing.specs.Variables.{a_local, captured_place, variable_named}
use Rattle.body_types.specs.BodyTypes.{look_at}
use Rattle.fitting_laws.specs.Sound.{HeadsAreSound, IsSound}

-- ---- classes

-- a field of the core program at its place, with the erasure of its type
pub record FieldStands (program : CoreProgram) (heads : List ClassHead) (m : Member) (f : DeclaredField) : Type 0 where
  pub field : CoreField
  pub there : field_at program m.class m.at ≡ Some field
  pub type : field.ty ≡ erased heads f.ty
  pub is_static : field.is_static ≡ f.is_static
  pub is_final : field.is_final ≡ f.is_final

-- a constant of a type: a value of that primitive type, or a text of type String (JLS 15.28)
pub data IsConstantOf : SourceType → Constant → Type 0 where
  a_value : {b : Base} {v : Value} → type_of_value v ≡ Some (of b) → IsConstantOf (plain b 0) (value_constant v)
  a_text : {units : List ℕ} → IsConstantOf string_type (text_constant units)

-- The header of a class of the core program, which is of its kind. An interface is abstract, whether that is said of it or
-- not (JLS 9.1.1.1).
pub record HeadStands (heads : List ClassHead) (c : ℕ) (class : CoreClass) : Type 0 where
  pub head : ClassHead
  pub there : head_at heads c ≡ Some head
  pub sort : class.kind.sort ≡ head.kind.sort
  pub is_abstract : (class.kind.is_abstract || is_interface_sort class.kind.sort)
      ≡ (head.kind.is_abstract || is_interface_sort head.kind.sort)
  pub is_final : class.kind.is_final ≡ head.kind.is_final

abbrev pub IsThere : CoreProgram → ℕ → Type 0
IsThere program c = is_some (class_at program (class_numbered c)) ≡ true

-- The core program has the classes of the headers, with their fields at their places; what is declared are sound
-- types. Nothing is above Object, String is there, and so are the classes that are members of others, or named by
-- their full names.
pub record Represents (p : Program) (program : CoreProgram) : Type 0 where
  pub heads : HasHeads program p.heads
  pub sound : HeadsAreSound program p.heads
  pub top : supers_of program object_class ≡ []
  pub object : is_some (class_at program object_class) ≡ true
  pub string : is_some (class_at program (library_class_of (codes "java.lang.String"))) ≡ true
  pub kinds : (c : ℕ) (class : CoreClass) → class_at program (class_numbered c) ≡ Some class →
      HeadStands p.heads c class
  pub fields : (m : Member) (f : DeclaredField) → declared_at p.classes m ≡ Some f → FieldStands program p.heads m f
  pub field_types : (m : Member) (f : DeclaredField) → declared_at p.classes m ≡ Some f →
      IsSound program p.heads 254 f.ty
  pub constants : (m : Member) (f : DeclaredField) (k : Constant) → declared_at p.classes m ≡ Some f →
      p.constants m ≡ Some k → IsConstantOf f.ty k
  pub members : (x : NameId) (c d : ℕ) → member_class p.source (settled p.source) x c ≡ a_class d → IsThere program d
  pub library : (parts : List Identifier) (c : ℕ) → library_class p.source.texts parts ≡ Some c → IsThere program c

-- ---- places

-- the field in which an instance of a class keeps the one round it (JLS 8.1.3)
pub record OuterStands (p : Program) (program : CoreProgram) (c d : ℕ) : Type 0 where
  pub field : CoreField
  pub there : field_at program (class_numbered c) (p.outer c) ≡ Some field
  pub type : field.ty ≡ class_type (class_numbered d)
  pub own : field.is_static ≡ false

-- Bodies that stand round a class: their classes are there, and where such a body has a current object, instances of
-- the class directly inside keep it.
pub data StandRound (p : Program) (program : CoreProgram) : ℕ → List Frame → Type 0 where
  outermost : {c : ℕ} → StandRound p program c []
  inside : {c : ℕ} {f : Frame} {fs : List Frame} → IsThere program f.class →
      (is_instance f.context ≡ true → OuterStands p program c f.class) → StandRound p program f.class fs →
      StandRound p program c (f ∷ fs)

-- a local has a sound type, and its constant, where it is a constant variable, is of the type
pub record LocalIsSound (p : Program) (program : CoreProgram) (v : LocalVariable) : Type 0 where
  pub type : IsSound program p.heads 255 v.type
  pub constant : (k : Constant) → v.constant ≡ Some k → IsConstantOf v.type k

-- A body of the core program is that of a place: it is of the class, has `this` where there is a current object, and
-- has each local in scope at its number with its erased type. The classes that names and written types mean there are
-- there.
pub record StandsAt (p : Program) (program : CoreProgram) (body : Body) (place : Place) : Type 0 where
  pub class : body.class ≡ class_numbered place.here.class
  pub there : IsThere program place.here.class
  pub this : is_instance place.here.context ≡ true → body.is_static ≡ false
  pub locals : (v : LocalVariable) → In place.here.locals v →
      slice_get body.locals v.number ≡ Some (erased p.heads v.type)
  pub sound : (f : Frame) (v : LocalVariable) → In (frames place) f → In f.locals v → LocalIsSound p program v
  pub round : StandRound p program place.here.class place.round
  pub named : (x : NameId) (c : ℕ) → class_named p place.here x ≡ a_class c → IsThere program c
  pub written : (parts : List Identifier) (c : ℕ) → look_at p place.here parts ≡ a_class c → IsThere program c

-- ---- locals of outer bodies (JLS 8.1.3)

abbrev pub kept_at : Program → Place → ℕ → LocalVariable → Member
kept_at p place n v = record { class = class_numbered place.here.class; at = captured_place p place n v }

-- `this` is there and keeps the local's value
pub record IsKept (p : Program) (program : CoreProgram) (body : Body) (place : Place) (n : ℕ) (v : LocalVariable)
    : Type 0 where
  pub this : body.is_static ≡ false
  pub field : CoreField
  pub there : field_at program (class_numbered place.here.class) (captured_place p place n v) ≡ Some field
  pub type : field.ty ≡ erased p.heads v.type
  pub own : field.is_static ≡ false

-- a local of an outer body is kept, or else it is a constant variable, and no field is in its place
pub data IsReached (p : Program) (program : CoreProgram) (body : Body) (place : Place) (n : ℕ) (v : LocalVariable)
    : Type 0 where
  reached : IsKept p program body place n v → IsReached p program body place n v
  a_constant : is_some v.constant ≡ true → declared_at p.classes (kept_at p place n v) ≡ None →
      IsReached p program body place n v

-- what a name has to be: each local of an outer body that it means is reached
abbrev pub NameIsReached : Program → CoreProgram → Body → Place → NameId → Type 0
NameIsReached p program body place x = (n : ℕ) (v : LocalVariable) → variable_named p place x ≡ a_local (suc n) v →
    IsReached p program body place (suc n) v
