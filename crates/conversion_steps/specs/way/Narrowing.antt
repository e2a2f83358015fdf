-- Whether a constant fits a type, by the primitive type that it is.
use Rattle.std.specs.Prelude.{Bool, false, Option, Some, None}
use Rattle.je_core.specs.declared.types.Base.{Base}
use Rattle.je_core.specs.declared.value.Value.{Value}
use Rattle.je_typing.specs.Conversions.{narrows_to}

abbrev pub narrows_if : Option Value → Option Base → Bool
narrows_if v None = false
narrows_if v (Some to) = narrows_to to v
