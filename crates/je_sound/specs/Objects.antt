-- Which objects a world may have (JLS 4.3.1, 8.1.1.1, 10.1, 15.9.1), and what their slots hold (JLS 4.12.3).
use Rattle.std.specs.Prelude.{◌≡◌, ℕ, ◌<◌, Bool, true, ◌||◌, List, [], ◌∷◌, map, Option, Some, None, is_some, slice_get, codes, if◌then◌else◌}
use Rattle.std.specs.List.{list_any}
use Rattle.je_core.specs.declared.object.Obj.{Obj}
use Rattle.je_core.specs.declared.object.Obj.TheVariants.{Instance, Array, Text, Builder, Row, Cap}
use Rattle.je_core.specs.declared.types.ClassId.{ClassId}
use Rattle.je_core.specs.declared.types.Ty.{Ty}
use Rattle.je_core.specs.declared.value.Value.{Value}
use Rattle.je_core.specs.Core.{CoreField, CoreClass, CoreProgram}
use Rattle.je_classes.specs.Hierarchy.{class_at, same_class, is_below, library_class, object_class}
use Rattle.je_classes.specs.Slots.{slot_fields}
use Rattle.je_classes.specs.Subtypes.{class_type}
use Rattle.je_java.specs.World.{slots_of}
use Rattle.je_fitting.specs.Types.{int, string, is_variable_type}
use Rattle.je_fitting.specs.Expressions.{can_be_made}
use Rattle.je_fitting.specs.Members.{is_guest}
use Rattle.je_sound.specs.Values.{ValuesFit}

-- ---- classes of the library

unfoldable pub throwable_class : ClassId
throwable_class = library_class (codes "java.lang.Throwable")

unfoldable pub token_class : ClassId
token_class = library_class (codes "org.joe_e.Token")

unfoldable pub immutable_class : ClassId
immutable_class = library_class (codes "org.joe_e.Immutable")

unfoldable pub const_row : ClassId
const_row = library_class (codes "joee.lib.ConstRow")

unfoldable pub int_row : ClassId
int_row = library_class (codes "joee.lib.IntRow")

unfoldable pub text_row : ClassId
text_row = library_class (codes "joee.lib.TextRow")

-- the interfaces of the five devices
unfoldable pub device_interfaces : List ClassId
device_interfaces = map library_class
    (codes "host.Console" ∷ codes "host.Cell" ∷ codes "host.Clock" ∷ codes "host.Inbox" ∷ codes "host.Store" ∷ [])

abbrev pub is_row_class : ClassId → Bool
is_row_class class = same_class class const_row || same_class class int_row || same_class class text_row

abbrev pub is_device_interface : ClassId → Bool
is_device_interface class = list_any (same_class class) device_interfaces

-- ---- objects

-- a class whose objects are instances: one of the guest's, Object, Token, or one below Throwable
abbrev pub has_instances : CoreProgram → ClassId → Bool
has_instances program class =
    is_guest class || same_class class object_class || same_class class token_class
    || is_below program class throwable_class

-- The object is one that Java makes, and each class that it names is there.
pub data IsObject (program : CoreProgram) : Obj → Type 0 where
  -- of a class that is neither abstract nor an interface
  an_instance : {class : ClassId} {c : CoreClass} {slots : List Value} → class_at program class ≡ Some c →
      can_be_made c ≡ true → has_instances program class ≡ true → IsObject program (Instance class slots)
  -- of elements of a type that a variable may have; no array has more than 255 dimensions
  an_array : {element : Ty} {slots : List Value} → is_variable_type program element ≡ true → element.dims < 255 →
      IsObject program (Array element slots)
  a_text : {units : List ℕ} → IsObject program (Text units)
  a_builder : {units : List ℕ} → IsObject program (Builder units)
  a_row : {class : ClassId} {slots : List Value} → is_some (class_at program class) ≡ true → is_row_class class ≡ true →
      IsObject program (Row class slots)
  a_capability : {device : ℕ} {class : ClassId} → is_some (class_at program class) ≡ true →
      is_device_interface class ≡ true → IsObject program (Cap device class)

-- what a row of a class holds
abbrev pub row_type : ClassId → Ty
row_type class =
    if same_class class int_row then int else (if same_class class text_row then string else class_type immutable_class)

abbrev pub field_type : CoreField → Ty
field_type field = field.ty

-- the types that are declared for an object's slots
abbrev pub slot_types : CoreProgram → Obj → List Ty
slot_types program (Instance class slots) = map field_type (slot_fields program (Some class))
slot_types program (Array element slots) = map (λ slot. element) slots
slot_types program (Row class slots) = map (λ slot. row_type class) slots
slot_types program _ = []

pub record ObjectFits (program : CoreProgram) (objects : List Obj) (object : Obj) : Type 0 where
  pub kind : IsObject program object
  pub slots : ValuesFit program objects (slot_types program object) (slots_of object)

abbrev pub slot_type_in : CoreProgram → Option Obj → ℕ → Option Ty
slot_type_in program None at = None
slot_type_in program (Some object) at = slice_get (slot_types program object) at

-- the type that is declared for a slot of an object, if there is such a slot
abbrev pub slot_type : CoreProgram → List Obj → ℕ → ℕ → Option Ty
slot_type program objects id at = slot_type_in program (slice_get objects id) at
