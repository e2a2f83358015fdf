-- The slots of a class's instances: those of its superclass, then its own (JLS 8.3, 12.5).
use Rattle.std.specs.Prelude.{ℕ, zero, suc, ◌+◌, List, [], ◌++◌, length, map, filter, count_by, take, Option, Some, None, slice_get, Bool, true, false, if◌then◌else◌}
use Rattle.je_core.specs.Defaults.{default_of}
use Rattle.je_core.specs.declared.types.ClassId.{ClassId}
use Rattle.je_core.specs.Core.{CoreField, CoreClass, CoreProgram}
use Rattle.je_core.specs.declared.value.Value.{Value}
use Rattle.je_classes.specs.Hierarchy.{class_at}

-- a static field takes no slot (JLS 8.3.1.1)
abbrev pub is_instance : CoreField → Bool
is_instance field = if field.is_static then false else true

abbrev pub own_slots : CoreClass → List CoreField
own_slots class = filter is_instance class.fields

abbrev pub behind_above : (Option ClassId → List CoreField) → Option CoreClass → List CoreField
behind_above above None = []
behind_above above (Some class) = above class.superclass ++ own_slots class

-- the instance fields of a class and of the classes above it, of so many classes at most, the highest one's first
abbrev pub fields_upwards : CoreProgram → ℕ → Option ClassId → List CoreField
fields_upwards program n None = []
fields_upwards program zero (Some class) = []
fields_upwards program (suc n) (Some class) = behind_above (fields_upwards program n) (class_at program class)

-- the fields that the slots of a class's instances hold, in order
unfoldable pub slot_fields : CoreProgram → Option ClassId → List CoreField
slot_fields program class = fields_upwards program (length program.classes) class

abbrev pub begin_as : List CoreField → Option CoreClass → Option (List Value)
begin_as fields None = None
begin_as fields (Some class) = Some (map (λ (field : CoreField). default_of field.ty) fields)

-- the slots with which an instance begins: the default of each instance field (JLS 4.12.5)
abbrev pub fresh_slots : CoreProgram → ClassId → Option (List Value)
fresh_slots program class = begin_as (slot_fields program (Some class)) (class_at program class)

abbrev pub slot_after : Option CoreField → ℕ → Option ℕ
slot_after None before = None
slot_after (Some field) before = if field.is_static then None else Some before

-- how many slots stand before the first of a class's own
abbrev pub slots_above : CoreProgram → CoreClass → ℕ
slots_above program class = length (slot_fields program class.superclass)

abbrev pub field_slot_in : CoreProgram → Option CoreClass → ℕ → Option ℕ
field_slot_in program None at = None
field_slot_in program (Some class) at = slot_after (slice_get class.fields at) (slots_above program class + count_by is_instance (take at class.fields))

-- the slot of the field of a number of a class: behind those of its superclass and of the instance fields before it
abbrev pub field_slot : CoreProgram → ClassId → ℕ → Option ℕ
field_slot program class at = field_slot_in program (class_at program class) at
