-- What is known of sound worlds, and what keeps them so.
use Rattle.std.specs.Prelude.{◌≡◌, ◌↔◌, ℕ, ◌∷◌, ◌++◌, List, [], true, false, Some, slice_get, slice_set}
use Rattle.je_core.specs.Defaults.{default_of}
use Rattle.je_core.specs.declared.object.Obj.{Obj}
use Rattle.je_core.specs.declared.object.Obj.TheVariants.{Instance}
use Rattle.je_core.specs.declared.types.ClassId.{ClassId}
use Rattle.je_core.specs.declared.types.Ty.{Ty}
use Rattle.je_core.specs.declared.value.ObjId.{ObjId}
use Rattle.je_core.specs.declared.value.Value.{Value}
use Rattle.je_core.specs.declared.value.Value.TheVariants.{Ref}
use Rattle.je_core.specs.Core.{CoreField, CoreMethod, CoreClass, CoreProgram}
use Rattle.je_classes.specs.Dispatch.{dispatched}
use Rattle.je_classes.specs.Hierarchy.{class_at, is_below}
use Rattle.je_classes.specs.Members.{Member, method_of}
use Rattle.je_classes.specs.Slots.{slot_fields, fresh_slots, field_slot}
use Rattle.je_classes.specs.Statics.{static_place}
use Rattle.je_classes.specs.Subtypes.{class_type}
use Rattle.je_java.specs.declared.call.Receiver.{Receiver}
use Rattle.je_java.specs.Classes.{text_place}
use Rattle.je_java.specs.Meaning.{member_at}
use Rattle.je_java.specs.World.{World, slot_of, with_slot, with_units_at}
use Rattle.je_fitting.specs.Types.{agrees, is_variable_type}
use Rattle.je_fitting.specs.Expressions.{can_be_made, field_at, method_at, is_constructor}
use Rattle.je_fitting.specs.Program.{FitsProgram}
use Rattle.library_classes.specs.Library.{LibraryStands}
use Rattle.je_sound.specs.Calls.{CallFits, RunsFor}
use Rattle.je_sound.specs.Objects.{has_instances, ObjectFits, slot_type}
use Rattle.je_sound.specs.Values.{ValueFits}
use Rattle.je_sound.specs.Worlds.{static_types, IsText, Sound}
use Rattle.je_sound.specs.way.Deciding.{is_sound, is_call_fit}

abbrev pub WorldsAreDecided : Type 0
WorldsAreDecided = (program : CoreProgram) (world : World) → (is_sound program world ≡ true) ↔ Sound program world

abbrev pub CallsAreDecided : Type 0
CallsAreDecided = (program : CoreProgram) (world : World) (receiver : Receiver) (class : ClassId) (at : ℕ)
    (given : List Value) →
    (is_call_fit program world receiver class at given ≡ true) ↔ CallFits program world receiver class at given

-- ---- values

-- A value that fits a type fits each type above it.
abbrev pub FitsAbove : Type 0
FitsAbove = (program : CoreProgram) (objects : List Obj) (s t : Ty) (value : Value) →
    LibraryStands program → ValueFits program objects s value → agrees program s t ≡ true →
    ValueFits program objects t value

-- The value with which a variable begins fits it.
abbrev pub DefaultsFit : Type 0
DefaultsFit = (program : CoreProgram) (objects : List Obj) (t : Ty) → is_variable_type program t ≡ true →
    ValueFits program objects t (default_of t)

-- A value fits on when objects are made,
abbrev pub FitsOn : Type 0
FitsOn = (program : CoreProgram) (objects others : List Obj) (t : Ty) (value : Value) →
    ValueFits program objects t value → ValueFits program (objects ++ others) t value

-- when a slot is written,
abbrev pub FitsOverWrites : Type 0
FitsOverWrites = (program : CoreProgram) (objects : List Obj) (id at : ℕ) (written : Value) (t : Ty) (value : Value) →
    ValueFits program objects t value → ValueFits program (with_slot objects id at written) t value

-- and when the units of a builder change.
abbrev pub FitsOverUnits : Type 0
FitsOverUnits = (program : CoreProgram) (objects : List Obj) (id : ℕ) (units : List ℕ) (t : Ty) (value : Value) →
    ValueFits program objects t value → ValueFits program (with_units_at objects id units) t value

-- ---- new objects

-- A new instance of a class that has instances fits, its slots at their defaults.
abbrev pub FreshInstancesFit : Type 0
FreshInstancesFit = (program : CoreProgram) (objects : List Obj) (class : ClassId) (c : CoreClass)
    (slots : List Value) → FitsProgram program → class_at program class ≡ Some c → can_be_made c ≡ true →
    has_instances program class ≡ true → fresh_slots program class ≡ Some slots →
    ObjectFits program objects (Instance class slots)

abbrev pub with_object : World → Obj → World
with_object world object = record world { objects = world.objects ++ object ∷ [] }

-- A world stays sound with one more object that fits.
abbrev pub NewObjectsKeep : Type 0
NewObjectsKeep = (program : CoreProgram) (world : World) (object : Obj) → Sound program world →
    ObjectFits program world.objects object → Sound program (with_object world object)

-- ---- slots

-- A slot holds a value that fits what is declared for it.
abbrev pub SlotsHold : Type 0
SlotsHold = (program : CoreProgram) (world : World) (id at : ℕ) (t : Ty) → Sound program world →
    slot_type program world.objects id at ≡ Some t →
    (value : Value) × (slot_of world.objects id at ≡ Some value) × ValueFits program world.objects t value

-- A write of a value that fits what is declared for a slot keeps a world sound.
abbrev pub WritesKeep : Type 0
WritesKeep = (program : CoreProgram) (world : World) (id at : ℕ) (t : Ty) (value : Value) → Sound program world →
    slot_type program world.objects id at ≡ Some t → ValueFits program world.objects t value →
    Sound program (record world { objects = with_slot world.objects id at value })

-- So do new units of a builder.
abbrev pub UnitsKeep : Type 0
UnitsKeep = (program : CoreProgram) (world : World) (id : ℕ) (units : List ℕ) → Sound program world →
    Sound program (record world { objects = with_units_at world.objects id units })

-- ---- class variables and constant strings

-- The place of a static field is one of its type.
abbrev pub StaticsAreTyped : Type 0
StaticsAreTyped = (program : CoreProgram) (class : ClassId) (at place : ℕ) (field : CoreField) →
    field_at program class at ≡ Some field → static_place program class at ≡ Some place →
    slice_get (static_types program) place ≡ Some field.ty

abbrev pub StaticsHold : Type 0
StaticsHold = (program : CoreProgram) (world : World) (at : ℕ) (t : Ty) → Sound program world →
    slice_get (static_types program) at ≡ Some t →
    (value : Value) × (slice_get world.statics at ≡ Some value) × ValueFits program world.objects t value

abbrev pub StaticWritesKeep : Type 0
StaticWritesKeep = (program : CoreProgram) (world : World) (at : ℕ) (t : Ty) (value : Value) → Sound program world →
    slice_get (static_types program) at ≡ Some t → ValueFits program world.objects t value →
    Sound program (record world { statics = slice_set world.statics at value })

-- The place of a constant string has a text.
abbrev pub TextsAreThere : Type 0
TextsAreThere = (program : CoreProgram) (world : World) (units : List ℕ) (at : ℕ) → Sound program world →
    text_place program units ≡ Some at →
    (value : Value) × (slice_get world.statics at ≡ Some value) × IsText world.objects value

-- ---- members of instances

-- In a program that fits, an instance has a method for each instance method that stands in its class or above it,
abbrev pub CallsAreDispatched : Type 0
CallsAreDispatched = (program : CoreProgram) (own class : ClassId) (o : CoreClass) (at : ℕ) (named : CoreMethod) →
    FitsProgram program → class_at program own ≡ Some o → can_be_made o ≡ true → is_below program own class ≡ true →
    method_at program class at ≡ Some named → named.flags.is_static ≡ false → is_constructor program named ≡ false →
    (member : Member) × (by : CoreMethod) × (dispatched program own (member_at class at) ≡ Some member) ×
    (method_of program member ≡ Some by) × RunsFor program by named

-- and the instance fields of each class above its own, each in the slot that it has there.
abbrev pub FieldsAreInherited : Type 0
FieldsAreInherited = (program : CoreProgram) (own class : ClassId) (c : CoreClass) (at slot : ℕ) (field : CoreField) →
    FitsProgram program → class_at program class ≡ Some c → is_below program own class ≡ true →
    field_at program class at ≡ Some field → field_slot program class at ≡ Some slot →
    slice_get (slot_fields program (Some own)) slot ≡ Some field

-- What fits a class has the instance fields of that class.
abbrev pub FieldsAreThere : Type 0
FieldsAreThere = (program : CoreProgram) (world : World) (object : ObjId) (class : ClassId) (c : CoreClass)
    (at slot : ℕ) (field : CoreField) → FitsProgram program → LibraryStands program → Sound program world →
    class_at program class ≡ Some c → ValueFits program world.objects (class_type class) (Ref object) →
    field_at program class at ≡ Some field → field_slot program class at ≡ Some slot →
    slot_type program world.objects object.0 slot ≡ Some field.ty

-- An instance that fits a class has a method for each instance method of that class.
abbrev pub CallsAreThere : Type 0
CallsAreThere = (program : CoreProgram) (world : World) (object : ObjId) (own class : ClassId) (slots : List Value)
    (at : ℕ) (named : CoreMethod) → FitsProgram program → Sound program world →
    slice_get world.objects object.0 ≡ Some (Instance own slots) →
    ValueFits program world.objects (class_type class) (Ref object) → method_at program class at ≡ Some named →
    named.flags.is_static ≡ false → is_constructor program named ≡ false →
    (member : Member) × (by : CoreMethod) × (dispatched program own (member_at class at) ≡ Some member) ×
    (method_of program member ≡ Some by) × RunsFor program by named
