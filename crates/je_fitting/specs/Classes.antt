-- When a class itself fits: its supers, bridges, hidden fields and initializers, and what it inherits (JLS 8.1, 8.4.8, 9.1).
use Rattle.std.specs.Prelude.{◌≡◌, ℕ, zero, suc, ◌+◌, Bool, true, false, not, ◌&&◌, ◌||◌, List, [], ◌∷◌, map, filter, take, drop, length, Option, Some, None, slice_get, is_some}
use Rattle.std.specs.List.{All}
use Rattle.je_core.specs.declared.program.Bridge.{Bridge}
use Rattle.je_core.specs.declared.program.Head.{Head}
use Rattle.je_core.specs.declared.program.Sort.{Sort}
use Rattle.je_core.specs.declared.program.Sort.TheVariants as sort
use Rattle.je_core.specs.declared.types.ClassId.{ClassId}
use Rattle.je_core.specs.declared.types.Ty.{Ty}
use Rattle.je_core.specs.Core.{CoreField, CoreMethod, CoreClass, CoreProgram}
use Rattle.je_classes.specs.Hierarchy.{class_at, same_class, is_below, object_class, supers_of}
use Rattle.je_classes.specs.Subtypes.{class_type, is_reference, same_type}
use Rattle.je_classes.specs.Members.{Member, same_name, is_hidden_access, is_private}
use Rattle.je_classes.specs.Dispatch.{bridged, implemented, dispatched}
use Rattle.je_fitting.specs.Types.{int, string, is_primitive}
use Rattle.je_fitting.specs.Expressions.{outer_count, method_at, is_constructor, is_interface_sort, can_be_made}
pub use Rattle.je_fitting.specs.Members.{is_interface}
use Rattle.je_fitting.specs.Members.{is_guest, results_agree, StandsFor, InitializerFits}

-- ---- supers

-- a class that may be extended: no interface, and not final
abbrev pub can_be_extended : Option CoreClass → Bool
can_be_extended None = false
can_be_extended (Some class) = not (is_interface_sort class.kind.sort || class.kind.is_final)

-- Object and the interfaces have no superclass, and every other class has one.
pub data SuperclassFits (program : CoreProgram) (class : ClassId) (c : CoreClass) : Option ClassId → Type 0 where
  none_above : (same_class class object_class || is_interface_sort c.kind.sort) ≡ true → SuperclassFits program class c None
  one_above : {s : ClassId} → (same_class class object_class || is_interface_sort c.kind.sort) ≡ false → can_be_extended (class_at program s) ≡ true → SuperclassFits program class c (Some s)

abbrev pub by_next : (Option ClassId → Bool) → Option CoreClass → Bool
by_next test None = false
by_next test (Some c) = test c.within

-- the class is the one directly round another, or round that one, in at most so many steps
abbrev pub is_round : CoreProgram → ℕ → ClassId → Option ClassId → Bool
is_round program n class None = false
is_round program zero class (Some inner) = same_class class inner
is_round program (suc n) class (Some inner) = same_class class inner || by_next (is_round program n class) (class_at program inner)

-- ---- hidden fields

abbrev pub is_enum_sort : Sort → Bool
is_enum_sort sort.Enum = true
is_enum_sort _ = false

abbrev pub is_hidden : CoreField → Bool
is_hidden f = is_hidden_access f.access

abbrev pub hidden_fields : CoreClass → List CoreField
hidden_fields c = filter is_hidden c.fields

abbrev pub field_types : List CoreField → List Ty
field_types fs = map (λ (f : CoreField). f.ty) fs

abbrev pub outer_type : Option ClassId → List Ty
outer_type None = []
outer_type (Some class) = class_type class ∷ []

abbrev pub enum_types : Sort → List Ty
enum_types sort.Enum = string ∷ int ∷ []
enum_types _ = []

-- how many fields hold the outer instance and captured locals
abbrev pub handed_count : CoreClass → ℕ
handed_count c = outer_count c.enclosing + c.captured

-- A guest's hidden fields are its outer field, of the class `enclosing`, then its captured ones, and in an enum its name and its
-- place. All are instance fields and final, and the outer and captured ones stand first.
pub record HiddenFit (c : CoreClass) : Type 0 where
  pub count : length (hidden_fields c) ≡ handed_count c + length (enum_types c.kind.sort)
  pub first : All (λ f. is_hidden f ≡ true) (take (handed_count c) c.fields)
  pub outer : take (outer_count c.enclosing) (field_types c.fields) ≡ outer_type c.enclosing
  pub of_enum : drop (handed_count c) (field_types (hidden_fields c)) ≡ enum_types c.kind.sort
  pub own : All (λ f. f.is_static ≡ false) (hidden_fields c)
  pub final : All (λ f. f.is_final ≡ true) (hidden_fields c)

-- ---- bridges

abbrev pub same_place : Ty → Ty → Bool
same_place s t = (is_primitive s && same_type s t) || (is_reference s && is_reference t)

abbrev pub same_places : List Ty → List Ty → Bool
same_places [] [] = true
same_places (s ∷ ss) (t ∷ ts) = same_place s t && same_places ss ts
same_places _ _ = false

-- Both methods stand in the class or above it, are no static ones, and have one name and as many parameters, each the same
-- primitive or both references; the second isn't abstract, and its result agrees.
pub record BridgeFits (program : CoreProgram) (class : ClassId) (b : Bridge) : Type 0 where
  pub from : CoreMethod
  pub to : CoreMethod
  pub from_there : method_at program b.method.0 b.method.1 ≡ Some from
  pub to_there : method_at program b.by.0 b.by.1 ≡ Some to
  pub from_above : is_below program class b.method.0 ≡ true
  pub to_above : is_below program class b.by.0 ≡ true
  pub from_own : from.flags.is_static ≡ false
  pub to_own : to.flags.is_static ≡ false
  pub to_concrete : to.flags.is_abstract ≡ false
  pub name : same_name from.name to.name ≡ true
  pub params : same_places from.params to.params ≡ true
  pub result : results_agree program to.returns from.returns ≡ true

-- ---- what it inherits

-- a method of the class or of one above it that an object of the class has
pub record IsInstanceMethod (program : CoreProgram) (class : ClassId) (above : ClassId) (at : ℕ) (k : CoreMethod) : Type 0 where
  pub there : method_at program above at ≡ Some k
  pub is_above : is_below program class above ≡ true
  pub own : k.flags.is_static ≡ false
  pub no_constructor : is_constructor program k ≡ false

-- what the class inherits to stand for a method of its signature fits it, where none of its bridges runs another one for it
abbrev pub InheritedFit : CoreProgram → ClassId → Type 0
InheritedFit program class = (above : ClassId) (at : ℕ) (k : CoreMethod) → IsInstanceMethod program class above at k → is_private k ≡ false →
    bridged (class_at program class) (record { class = above; at = at }) ≡ None → (m : Member) (by : CoreMethod) →
    implemented program class k ≡ Some m → same_class m.class class ≡ false → method_at program m.class m.at ≡ Some by → StandsFor program by k

-- a class of which there are objects has an implementation of each method
abbrev pub Implements : CoreProgram → ClassId → Type 0
Implements program class = (above : ClassId) (at : ℕ) (k : CoreMethod) → IsInstanceMethod program class above at k →
    is_some (dispatched program class (record { class = above; at = at })) ≡ true

-- ---- the class

pub record ClassFits (program : CoreProgram) (class : ClassId) (c : CoreClass) : Type 0 where
  pub superclass : SuperclassFits program class c c.superclass
  pub interfaces : All (λ i. is_interface (class_at program i) ≡ true) c.interfaces
  pub not_above_itself : All (λ s. is_below program s class ≡ false) (supers_of program class)
  pub not_round_itself : is_round program (length program.classes) class c.within ≡ false
  pub heads : All (λ (h : Head). is_some (class_at program h.class) ≡ true) c.heads
  pub round : (d : ClassId) → c.within ≡ Some d → is_some (class_at program d) ≡ true
  pub top : is_some (class_at program c.top) ≡ true
  pub outer : (d : ClassId) → c.enclosing ≡ Some d → is_some (class_at program d) ≡ true
  pub hidden : is_guest class ≡ true → HiddenFit c
  pub bridges : All (BridgeFits program class) c.bridges
  pub one_bridge : (i j : ℕ) (a b : Bridge) → slice_get c.bridges i ≡ Some a → slice_get c.bridges j ≡ Some b → a.method ≡ b.method → i ≡ j
  pub inherited : InheritedFit program class
  pub implements : can_be_made c ≡ true → Implements program class
  pub initializers : All (InitializerFits program class) c.initializers
