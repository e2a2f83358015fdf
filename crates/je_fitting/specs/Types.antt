-- What is asked of types (JLS 4.2, 4.3, 5.1, 5.2).
use Rattle.std.specs.Prelude.{Bool, true, false, ◌&&◌, ◌||◌, List, [], ◌∷◌, map, Option, Some, None, is_some, nat_eq, codes}
use Rattle.je_core.specs.declared.types.Base.{Base}
use Rattle.je_core.specs.declared.types.Base.TheVariants as base
use Rattle.je_core.specs.declared.types.Ty.{Ty}
use Rattle.je_core.specs.declared.value.Value.{Value}
use Rattle.je_core.specs.declared.value.Value.TheVariants as value
use Rattle.je_core.specs.Core.{Core, ty_of, CoreProgram}
use Rattle.je_classes.specs.Hierarchy.{class_at, library_class}
use Rattle.je_classes.specs.Subtypes.{class_type, null_type, same_type, is_subtype}

abbrev pub of : Base → Ty
of b = record { base = b; dims = 0 }

abbrev pub bool : Ty
bool = of base.Bool

abbrev pub int : Ty
int = of base.Int

abbrev pub void : Ty
void = of base.Void

abbrev pub string : Ty
string = class_type (library_class (codes "java.lang.String"))

abbrev pub throwable : Ty
throwable = class_type (library_class (codes "java.lang.Throwable"))

abbrev pub is_bool : Ty → Bool
is_bool t = same_type t bool

abbrev pub is_int : Ty → Bool
is_int t = same_type t int

abbrev pub is_void : Ty → Bool
is_void t = same_type t void

abbrev pub is_number_base : Base → Bool
is_number_base base.Byte = true
is_number_base base.Short = true
is_number_base base.Char = true
is_number_base base.Int = true
is_number_base base.Long = true
is_number_base _ = false

-- a number, or a char
abbrev pub is_number : Ty → Bool
is_number t = nat_eq t.dims 0 && is_number_base t.base

-- what numeric promotion comes to (JLS 5.6)
abbrev pub is_promoted : Ty → Bool
is_promoted t = is_int t || same_type t (of base.Long)

abbrev pub is_primitive : Ty → Bool
is_primitive t = is_number t || is_bool t

-- what goes to a place of a type: the same primitive, or a subtype
abbrev pub agrees : CoreProgram → Ty → Ty → Bool
agrees program s t = (is_primitive s && same_type s t) || is_subtype program s t

abbrev pub all_agree : CoreProgram → List Ty → List Ty → Bool
all_agree program [] [] = true
all_agree program (s ∷ ss) (t ∷ ts) = agrees program s t && all_agree program ss ts
all_agree program _ _ = false

abbrev pub is_there_base : CoreProgram → Base → Bool
is_there_base program (base.Class c) = is_some (class_at program c)
is_there_base program _ = true

-- its class, if it is of one, is there
abbrev pub is_there : CoreProgram → Ty → Bool
is_there program t = is_there_base program t.base

abbrev pub holds_something : Base → Bool
holds_something base.Void = false
holds_something base.Null = false
holds_something _ = true

-- the type of a variable: its class is there, and it is neither void nor the type of `null`, nor an array of these
abbrev pub is_variable_type : CoreProgram → Ty → Bool
is_variable_type program t = is_there program t && holds_something t.base

-- the type of a constant, which is no reference
abbrev pub type_of_value : Value → Option Ty
type_of_value (value.Bool b) = Some bool
type_of_value (value.Byte n) = Some (of base.Byte)
type_of_value (value.Short n) = Some (of base.Short)
type_of_value (value.Char n) = Some (of base.Char)
type_of_value (value.Int n) = Some int
type_of_value (value.Long n) = Some (of base.Long)
type_of_value value.Null = Some null_type
type_of_value (value.Ref o) = None

abbrev pub types_of : List Core → List Ty
types_of es = map ty_of es
