-- Constant variables (JLS 4.12.4): final, of a primitive type or String, with a constant expression as initializer.
use Rattle.std.specs.Prelude.{Bool, false, true, Option, Some, None, option_map, if◌then◌else◌}
use Rattle.je_core.specs.declared.types.Base.{Base}
use Rattle.je_core.specs.Core.{Core}
use Rattle.je_scopes.specs.SourceTypes.{SourceType}
use Rattle.je_typing.specs.Constants.{constant_text, constant_value, value_in}
use Rattle.je_typing.specs.Typed.{is_string, primitive}
use Rattle.name_typing.specs.Program.{Constant, text_constant, value_constant}

abbrev pub constant_text_if : Bool → Core → Option Constant
constant_text_if false n = None
constant_text_if true n = option_map text_constant (constant_text n)

-- the constant that an initializer is for a type, converted to it (JLS 5.2)
abbrev pub constant_as : SourceType → Option Base → Core → Option Constant
constant_as t (Some b) n = option_map value_constant (value_in b (constant_value n))
constant_as t None n = constant_text_if (is_string t) n

-- of a variable of a type, final or not, with that initializer
unfoldable pub variable_constant : Bool → SourceType → Core → Option Constant
variable_constant is_final t n = if is_final then constant_as t (primitive t) n else None
