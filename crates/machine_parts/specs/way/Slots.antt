-- The fields of classes on the way up from one.
use Rattle.std.specs.Prelude.{List, [], ◌∷◌, ◌++◌, map}
use Rattle.je_core.specs.Defaults.{default_of}
use Rattle.je_core.specs.declared.types.ClassId.{ClassId}
use Rattle.je_core.specs.declared.value.Value.{Value}
use Rattle.je_core.specs.Core.{CoreField, CoreProgram}
use Rattle.object_parts.specs.way.Slots.{instance_fields}

-- the instance fields of classes, of the last one first
abbrev pub fields_along : CoreProgram → List ClassId → List CoreField
fields_along program [] = []
fields_along program (class ∷ path) = fields_along program path ++ instance_fields program class

abbrev pub defaults : List CoreField → List Value
defaults fields = map (λ (field : CoreField). default_of field.ty) fields
