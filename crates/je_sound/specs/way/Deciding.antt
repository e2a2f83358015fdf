-- The tests that a world is sound and that a call fits.
use Rattle.std.specs.Prelude.{ℕ, Bool, true, false, not, ◌&&◌, List, [], ◌∷◌, Option, Some, None, is_some, is_none, length, take, drop, nat_lt, nat_eq, slice_get}
use Rattle.std.specs.List.{list_all}
use Rattle.je_core.specs.declared.object.Obj.{Obj}
use Rattle.je_core.specs.declared.object.Obj.TheVariants.{Instance, Array, Text, Builder, Row, Cap}
use Rattle.je_core.specs.declared.types.ClassId.{ClassId}
use Rattle.je_core.specs.declared.types.Ty.{Ty}
use Rattle.je_core.specs.declared.value.Value.{Value}
use Rattle.je_core.specs.declared.value.Value.TheVariants.{Ref}
use Rattle.je_core.specs.Core.{CoreMethod, CoreClass, CoreProgram}
use Rattle.je_classes.specs.Hierarchy.{class_at}
use Rattle.je_classes.specs.Subtypes.{class_type}
use Rattle.je_java.specs.declared.call.Receiver.{Receiver}
use Rattle.je_java.specs.declared.call.Receiver.TheVariants as receiver
use Rattle.je_java.specs.World.{World, slots_of}
use Rattle.je_fitting.specs.Types.{agrees, is_variable_type}
use Rattle.je_fitting.specs.Expressions.{can_be_made, method_at, is_constructor}
use Rattle.je_fitting.specs.Members.{is_guest}
use Rattle.je_sound.specs.Calls.{is_local_sort}
use Rattle.je_sound.specs.Values.{own_type}
use Rattle.je_sound.specs.Objects.{has_instances, is_row_class, is_device_interface, slot_types}
use Rattle.je_sound.specs.Worlds.{static_types}

abbrev pub agrees_if_there : CoreProgram → Ty → Option Ty → Bool
agrees_if_there program declared None = false
agrees_if_there program declared (Some own) = agrees program own declared

abbrev pub does_value_fit : CoreProgram → List Obj → Ty → Value → Bool
does_value_fit program objects declared value = agrees_if_there program declared (own_type objects value)

abbrev pub do_values_fit : CoreProgram → List Obj → List Ty → List Value → Bool
do_values_fit program objects [] [] = true
do_values_fit program objects [] (value ∷ values) = false
do_values_fit program objects (t ∷ ts) [] = false
do_values_fit program objects (t ∷ ts) (value ∷ values) =
    does_value_fit program objects t value && do_values_fit program objects ts values

abbrev pub is_made_of : CoreProgram → ClassId → Option CoreClass → Bool
is_made_of program class None = false
is_made_of program class (Some c) = can_be_made c && has_instances program class

abbrev pub is_object : CoreProgram → Obj → Bool
is_object program (Instance class slots) = is_made_of program class (class_at program class)
is_object program (Array element slots) = is_variable_type program element && nat_lt element.dims 255
is_object program (Text units) = true
is_object program (Builder units) = true
is_object program (Row class slots) = is_some (class_at program class) && is_row_class class
is_object program (Cap device class) = is_some (class_at program class) && is_device_interface class

abbrev pub does_object_fit : CoreProgram → List Obj → Obj → Bool
does_object_fit program objects object =
    is_object program object && do_values_fit program objects (slot_types program object) (slots_of object)

abbrev pub is_text_at : Option Obj → Bool
is_text_at (Some (Text units)) = true
is_text_at _ = false

abbrev pub is_text : List Obj → Value → Bool
is_text objects (Ref object) = is_text_at (slice_get objects object.0)
is_text objects _ = false

abbrev pub static_values : CoreProgram → World → List Value
static_values program world = take (length (static_types program)) world.statics

abbrev pub text_values : CoreProgram → World → List Value
text_values program world = drop (length (static_types program)) world.statics

abbrev pub is_sound : CoreProgram → World → Bool
is_sound program world =
    list_all (does_object_fit program world.objects) world.objects
    && do_values_fit program world.objects (static_types program) (static_values program world)
    && nat_eq (length (text_values program world)) (length program.texts)
    && list_all (is_text world.objects) (text_values program world)

-- ---- calls

abbrev pub does_receiver_fit : CoreProgram → World → ClassId → CoreClass → CoreMethod → Receiver → Bool
does_receiver_fit program world class c m receiver.None = m.flags.is_static && not m.flags.is_abstract
does_receiver_fit program world class c m (receiver.Object object) =
    not m.flags.is_static && not (is_constructor program m)
    && does_value_fit program world.objects (class_type class) (Ref object)
does_receiver_fit program world class c m receiver.Fresh =
    is_constructor program m && can_be_made c && is_none c.enclosing && not (is_local_sort c.kind.sort)

abbrev pub is_fit_in : CoreProgram → World → Receiver → ClassId → Option CoreClass → Option CoreMethod → List Value → Bool
is_fit_in program world receiver class None m given = false
is_fit_in program world receiver class (Some c) None given = false
is_fit_in program world receiver class (Some c) (Some m) given =
    is_guest class && does_receiver_fit program world class c m receiver
    && do_values_fit program world.objects m.params given

abbrev pub is_call_fit : CoreProgram → World → Receiver → ClassId → ℕ → List Value → Bool
is_call_fit program world receiver class at given =
    is_fit_in program world receiver class (class_at program class) (method_at program class at) given
