-- The classes whose objects have no slots.
use Rattle.std.specs.Prelude.{◌≡◌, List, [], ◌∷◌, Some}
use Rattle.std.specs.List.{All}
use Rattle.je_core.specs.declared.types.ClassId.{ClassId}
use Rattle.je_core.specs.Core.{CoreProgram}
use Rattle.je_classes.specs.Hierarchy.{object_class}
use Rattle.je_classes.specs.Slots.{slot_fields}
use Rattle.je_java.specs.LibraryClasses.{string_class, builder_class}
use Rattle.je_sound.specs.Objects.{const_row, int_row, text_row, device_interfaces}

-- the list of them, from its end

abbrev pub from_text_row : List ClassId
from_text_row = text_row ∷ device_interfaces

abbrev pub from_int_row : List ClassId
from_int_row = int_row ∷ from_text_row

abbrev pub from_rows : List ClassId
from_rows = const_row ∷ from_int_row

abbrev pub from_builder : List ClassId
from_builder = builder_class ∷ from_rows

abbrev pub from_string : List ClassId
from_string = string_class ∷ from_builder

-- Object, and the classes of objects that are neither instances nor arrays
abbrev pub bare_classes : List ClassId
bare_classes = object_class ∷ from_string

-- None of these has an instance field, nor a class above it.
abbrev pub AreBare : CoreProgram → Type 0
AreBare program = All (λ class. slot_fields program (Some class) ≡ []) bare_classes
