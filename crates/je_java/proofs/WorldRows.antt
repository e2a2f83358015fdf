-- Objects of each kind: their classes, types, slots and UTF-16 units, and what a write leaves.
use Rattle.std.proofs.Common.{◌≡◌, ℕ, List, [], ◌∷◌, Some, None, refl}
use Rattle.std.specs.Prelude.{pos}
use Rattle.je_core.specs.declared.object.Obj.{Obj}
use Rattle.je_core.specs.declared.object.Obj.TheVariants.{Text, Builder, Row, Cap}
use Rattle.je_core.specs.declared.types.ClassId.{ClassId}
use Rattle.je_core.specs.declared.value.Value.TheVariants.{Int, Null}
use Rattle.je_classes.specs.Subtypes.{class_type}
use Rattle.je_java.specs.LibraryClasses.{string_class, builder_class}
use Rattle.je_java.specs.World.{class_of, type_of, extent_of, slot_of, with_slot, units_of, with_units_at}

abbrev numbered : ℕ → ClassId
numbered n = record { 0 = n }

-- "hi", a builder that holds it, a row of one value, and a capability for device 3
abbrev some_objects : List Obj
some_objects = Text (104 ∷ 105 ∷ []) ∷ Builder (104 ∷ 105 ∷ []) ∷ Row (numbered 16) (Int (pos 7) ∷ []) ∷ Cap 3 (numbered 18) ∷ []

class_of_text : class_of some_objects 0 ≡ Some string_class
class_of_text = refl

class_of_builder : class_of some_objects 1 ≡ Some builder_class
class_of_builder = refl

class_of_row : class_of some_objects 2 ≡ Some (numbered 16)
class_of_row = refl

type_of_cap : type_of some_objects 3 ≡ Some (class_type (numbered 18))
type_of_cap = refl

-- none of these is an array
no_extent : extent_of some_objects 2 ≡ None
no_extent = refl

slot_of_row : slot_of some_objects 2 0 ≡ Some (Int (pos 7))
slot_of_row = refl

no_slot_of_text : slot_of some_objects 0 0 ≡ None
no_slot_of_text = refl

units_of_text : units_of some_objects 0 ≡ Some (104 ∷ 105 ∷ [])
units_of_text = refl

no_units_of_row : units_of some_objects 2 ≡ None
no_units_of_row = refl

-- a builder's UTF-16 units change, a string's don't
put_into_builder : with_units_at some_objects 1 (104 ∷ []) ≡ Text (104 ∷ 105 ∷ []) ∷ Builder (104 ∷ []) ∷ Row (numbered 16) (Int (pos 7) ∷ []) ∷ Cap 3 (numbered 18) ∷ []
put_into_builder = refl

put_into_text : with_units_at some_objects 0 [] ≡ some_objects
put_into_text = refl

-- what has no slots takes no write
write_to_cap : with_slot some_objects 3 0 Null ≡ some_objects
write_to_cap = refl
