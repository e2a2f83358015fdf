-- When a world is one of a program: nothing in it stands where it may not (JLS 4.12.2). All classes count as started,
-- since evaluation starts none.
use Rattle.std.specs.Prelude.{◌≡◌, ℕ, List, ◌++◌, length, map, filter, Some, slice_get}
use Rattle.std.specs.List.{All, flat_map}
use Rattle.je_core.specs.declared.object.Obj.{Obj}
use Rattle.je_core.specs.declared.object.Obj.TheVariants.{Text}
use Rattle.je_core.specs.declared.types.Ty.{Ty}
use Rattle.je_core.specs.declared.value.ObjId.{ObjId}
use Rattle.je_core.specs.declared.value.Value.{Value}
use Rattle.je_core.specs.declared.value.Value.TheVariants.{Ref}
use Rattle.je_core.specs.Core.{CoreClass, CoreProgram}
use Rattle.je_classes.specs.Statics.{is_static}
use Rattle.je_java.specs.World.{World}
use Rattle.je_sound.specs.Objects.{field_type, ObjectFits}
use Rattle.je_sound.specs.Values.{ValuesFit}

abbrev pub static_types_of : CoreClass → List Ty
static_types_of class = map field_type (filter is_static class.fields)

-- the types of the static fields, by class number and place
abbrev pub static_types : CoreProgram → List Ty
static_types program = flat_map static_types_of program.classes

-- a reference to a text
pub data IsText (objects : List Obj) : Value → Type 0 where
  a_text : {object : ObjId} {units : List ℕ} → slice_get objects object.0 ≡ Some (Text units) →
      IsText objects (Ref object)

-- Each object is one that Java makes and holds what its slots are declared for; so does each static field; and behind
-- these there is a text for each constant string.
pub record Sound (program : CoreProgram) (world : World) : Type 0 where
  pub objects : All (ObjectFits program world.objects) world.objects
  pub fields : List Value
  pub texts : List Value
  pub statics : world.statics ≡ fields ++ texts
  pub fields_fit : ValuesFit program world.objects (static_types program) fields
  pub texts_count : length texts ≡ length program.texts
  pub are_texts : All (IsText world.objects) texts
