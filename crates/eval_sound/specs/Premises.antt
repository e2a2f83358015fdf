-- What evaluation rests on beside a program that fits: what the library's members do, and a few things that are true of each program
-- which is elaborated from a source.
use Rattle.std.specs.Prelude.{◌≡◌, ◌≤◌, ℕ, zero, suc, Bool, true, false, List, Some, None, slice_get}
use Rattle.je_base.specs.declared.span.Span.{Span}
use Rattle.je_core.specs.declared.expr.BinOp.{BinOp}
use Rattle.je_core.specs.declared.object.Obj.{Obj}
use Rattle.je_core.specs.declared.types.Base.{Base}
use Rattle.je_core.specs.declared.types.Base.TheVariants as base
use Rattle.je_core.specs.declared.types.ClassId.{ClassId}
use Rattle.je_core.specs.declared.types.Ty.{Ty}
use Rattle.je_core.specs.declared.value.Value.{Value}
use Rattle.je_core.specs.declared.value.Value.TheVariants.{Null}
use Rattle.je_core.specs.Core.{Core, Cores, MaybeCore, CoreCapture, CoreInitializer, CoreMethod, CoreStmt, CoreClass, CoreProgram, node, a_core, ty_of}
use Rattle.je_core.specs.Core as core
use Rattle.je_classes.specs.Dispatch.{dispatched}
use Rattle.je_classes.specs.Hierarchy.{class_at, object_class}
use Rattle.je_classes.specs.Members.{Member, method_of}
use Rattle.je_classes.specs.Subtypes.{class_type, is_subtype}
use Rattle.constructor_calls.specs.Calls.{begins_with_call, plain_constructor}
use Rattle.je_fitting.specs.Classes.{IsInstanceMethod, same_places}
use Rattle.je_fitting.specs.Expressions.{method_at, is_constructor, can_be_made}
use Rattle.je_fitting.specs.Members.{is_guest, results_agree}
use Rattle.je_fitting.specs.Types.{agrees}
use Rattle.je_java.specs.LibraryClasses.{to_string_place}
use Rattle.je_java.specs.LibraryMembers.{run_library, has_own_makers}
use Rattle.je_java.specs.Meaning.{member_at}
use Rattle.je_java.specs.Steps.{receiving_class}
use Rattle.je_java.specs.Subclasses.{superclass_of}
use Rattle.je_java.specs.Texts.{is_string}
use Rattle.je_sound.specs.Objects.{has_instances, is_device_interface}
use Rattle.je_sound.specs.Values.{ValueFits}
use Rattle.eval_sound.specs.Nodes.{Throughout}
use Rattle.eval_sound.specs.Safety.{Setting, Allowed, HasDevice, ResultFits, Fitting, AllFitting, Context, Safe}

-- a method or constructor of a class of the library, which isn't abstract
pub record IsOfLibrary (program : CoreProgram) (class : ClassId) (at : ℕ) (method : CoreMethod) : Type 0 where
  pub there : method_at program class at ≡ Some method
  pub of_library : is_guest class ≡ false
  pub concrete : method.flags.is_abstract ≡ false

abbrev pub has_objects_of : Base → ℕ → Bool
has_objects_of b (suc n) = true
has_objects_of (base.Class class) zero = true
has_objects_of _ zero = false

-- a type that an object has: a class or an array (JLS 4.3.1)
abbrev pub has_objects : Ty → Bool
has_objects t = has_objects_of t.base t.dims

-- No method is native (JLS 8.4.3.4).
abbrev pub NoneNative : CoreProgram → Type 0
NoneNative program = (class : ClassId) (at : ℕ) (method : CoreMethod) → method_at program class at ≡ Some method →
    method.flags.is_native ≡ false

module _ (setting : Setting) where
  -- a member without a body, on a receiver and arguments that fit it, gives what it is declared to give
  pub record MemberIsSafe (class : ClassId) (at : ℕ) (method : CoreMethod) : Type 0 where
    pub runs : (context : Context) (objects : List Obj) (this : Value) (given : List Value) →
        (method.flags.is_static ≡ false → ValueFits setting.program objects (class_type class) this) →
        AllFitting setting.program method.params objects given →
        Safe setting context objects (ResultFits setting.program method.returns) (run_library setting.program class at this given)

  -- a constructor that makes its object itself gives one of its class
  pub record MakerIsSafe (class : ClassId) (at : ℕ) (constructor : CoreMethod) : Type 0 where
    pub runs : (context : Context) (objects : List Obj) (given : List Value) →
        AllFitting setting.program constructor.params objects given →
        Safe setting context objects (Fitting setting.program (class_type class)) (run_library setting.program class at Null given)

  -- An object's class has a method for a named one, which can run in its place.
  pub record Dispatches (own class : ClassId) (at : ℕ) (named : CoreMethod) : Type 0 where
    pub member : Member
    pub method : CoreMethod
    pub found : dispatched setting.program own (member_at class at) ≡ Some member
    pub there : method_of setting.program member ≡ Some method
    pub above : agrees setting.program (class_type own) (class_type member.class) ≡ true
    pub instance : method.flags.is_static ≡ false
    pub plain : is_constructor setting.program method ≡ false
    pub params : same_places named.params method.params ≡ true
    pub result : results_agree setting.program method.returns named.returns ≡ true
    pub library : method.body ≡ None → MemberIsSafe member.class member.at method

  -- Which class's method for a named one is come to: for the one that is called from outside that of any class, and where an
  -- expression of the program names it, that of an object of the type that stands before it; `toString()` is named where a text is
  -- made of an operand (JLS 15.18.1.1).
  pub data ComesTo : ClassId → ClassId → ℕ → Type 0 where
    from_outside : {own : ClassId} → agrees setting.program (class_type own) (class_type setting.called.class) ≡ true →
        ComesTo own setting.called.class setting.called.at
    by_call : (own : Ty) {receiver : Core} {class : ClassId} {at : ℕ} {args : Cores} {t : Ty} {span place : Span} →
        Allowed setting (node (core.CallVirtual receiver class at args) t span place) →
        is_subtype setting.program (ty_of receiver) (class_type class) ≡ true →
        has_objects own ≡ true → agrees setting.program own (ty_of receiver) ≡ true → ComesTo (receiving_class own.dims own.base) class at
    by_left : (own : Ty) {left right : Core} {t : Ty} {span place : Span} →
        Allowed setting (node (core.Concat left right) t span place) →
        has_objects own ≡ true → agrees setting.program own (ty_of left) ≡ true →
        ComesTo (receiving_class own.dims own.base) object_class to_string_place
    by_right : (own : Ty) {left right : Core} {t : Ty} {span place : Span} →
        Allowed setting (node (core.Concat left right) t span place) →
        has_objects own ≡ true → agrees setting.program own (ty_of right) ≡ true →
        ComesTo (receiving_class own.dims own.base) object_class to_string_place
    by_target : (own : Ty) {target operand : Core} {op : BinOp} {gives_old : Bool} {t : Ty} {span place : Span} →
        Allowed setting (node (core.Update target op (a_core operand) gives_old) t span place) → is_string t ≡ true →
        has_objects own ≡ true → agrees setting.program own (ty_of target) ≡ true →
        ComesTo (receiving_class own.dims own.base) object_class to_string_place
    by_operand : (own : Ty) {target operand : Core} {op : BinOp} {gives_old : Bool} {t : Ty} {span place : Span} →
        Allowed setting (node (core.Update target op (a_core operand) gives_old) t span place) → is_string t ≡ true →
        has_objects own ≡ true → agrees setting.program own (ty_of operand) ≡ true →
        ComesTo (receiving_class own.dims own.base) object_class to_string_place

  -- A member of the library that can run is safe where the program comes to it.
  pub record LibraryIsSafe : Type 0 where
    -- as the method that an object's class has
    pub dispatched_to : (own class : ClassId) (at : ℕ) (named : CoreMethod) (o : CoreClass) (member : Member) (method : CoreMethod) →
        ComesTo own class at → class_at setting.program own ≡ Some o → can_be_made o ≡ true →
        IsInstanceMethod setting.program own class at named →
        dispatched setting.program own (member_at class at) ≡ Some member →
        IsOfLibrary setting.program member.class member.at method →
        MemberIsSafe member.class member.at method
    -- as a device's, where one was there at first
    pub devices : HasDevice setting.first → (own class : ClassId) (at : ℕ) (named : CoreMethod) → ComesTo own class at →
        is_device_interface own ≡ true → agrees setting.program (class_type own) (class_type class) ≡ true →
        method_at setting.program class at ≡ Some named → Dispatches own class at named
    -- as the named one itself
    pub named : {receiver : MaybeCore} {class : ClassId} {at : ℕ} {args : Cores} {t : Ty} {span place : Span} (method : CoreMethod) →
        Allowed setting (node (core.CallExact receiver class at args) t span place) →
        IsOfLibrary setting.program class at method → is_constructor setting.program method ≡ false →
        MemberIsSafe class at method
    -- as a constructor of a new instance, and as one that makes it itself
    pub made : {class : ClassId} {at : ℕ} {args : Cores} {captures : List CoreCapture} {word span place : Span} {t : Ty} (constructor : CoreMethod) →
        Allowed setting (node (core.New class at args captures word) t span place) →
        IsOfLibrary setting.program class at constructor → is_constructor setting.program constructor ≡ true →
        has_own_makers class ≡ false → MemberIsSafe class at constructor
    pub instances : {class : ClassId} {at : ℕ} {args : Cores} {captures : List CoreCapture} {word span place : Span} {t : Ty} (constructor : CoreMethod) →
        Allowed setting (node (core.New class at args captures word) t span place) →
        IsOfLibrary setting.program class at constructor → is_constructor setting.program constructor ≡ true →
        has_own_makers class ≡ false → has_instances setting.program class ≡ true
    pub makers : {class : ClassId} {at : ℕ} {args : Cores} {captures : List CoreCapture} {word span place : Span} {t : Ty} (constructor : CoreMethod) →
        Allowed setting (node (core.New class at args captures word) t span place) →
        IsOfLibrary setting.program class at constructor → is_constructor setting.program constructor ≡ true →
        has_own_makers class ≡ true → MakerIsSafe class at constructor
    -- as a constructor of a guest's superclass, which one of the guest's begins with (JLS 8.8.7)
    pub above : (sub class : ClassId) (at : ℕ) (constructor : CoreMethod) → is_guest sub ≡ true →
        superclass_of setting.program sub ≡ Some class →
        IsOfLibrary setting.program class at constructor → is_constructor setting.program constructor ≡ true →
        MemberIsSafe class at constructor

  -- No array that an expression makes has more than 255 dimensions (JVM's limit, which `u8` keeps).
  pub record FewDimensions : Type 0 where
    pub by_lengths : {lengths : Cores} {t : Ty} {span place : Span} →
        Allowed setting (node (core.NewArray lengths) t span place) → t.dims ≤ 255
    pub by_values : {values : Cores} {t : Ty} {span place : Span} →
        Allowed setting (node (core.ArrayOf values) t span place) → t.dims ≤ 255

  -- Each expression in each body is one of the allowed ones.
  pub record AllAllowed : Type 0 where
    pub methods : (class : ClassId) (c : CoreClass) (at : ℕ) (method : CoreMethod) (body : CoreStmt) →
        class_at setting.program class ≡ Some c → slice_get c.methods at ≡ Some method →
        method.body ≡ Some body → Throughout (Allowed setting) body
    pub initializers : (class : ClassId) (c : CoreClass) (at : ℕ) (initializer : CoreInitializer) →
        class_at setting.program class ≡ Some c →
        slice_get c.initializers at ≡ Some initializer → Throughout (Allowed setting) initializer.body

-- A constructor that begins with no call of another one has one without parameters above it (JLS 8.8.7).
pub record ConstructorsStand (program : CoreProgram) : Type 0 where
  pub above : (class super : ClassId) (c : CoreClass) (at : ℕ) (constructor : CoreMethod) (body : CoreStmt) →
      class_at program class ≡ Some c → c.superclass ≡ Some super →
      slice_get c.methods at ≡ Some constructor → is_constructor program constructor ≡ true →
      constructor.body ≡ Some body → begins_with_call program body ≡ false →
      (member : Member) × (plain_constructor program (Some super) ≡ Some member)

pub record Premises (setting : Setting) : Type 0 where
  pub no_native : NoneNative setting.program
  pub library : LibraryIsSafe setting
  pub dimensions : FewDimensions setting
  pub allowed : AllAllowed setting
  pub constructors : ConstructorsStand setting.program
