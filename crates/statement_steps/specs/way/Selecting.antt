-- Selectors by the base of a primitive type.
use Rattle.std.specs.Prelude.{Bool, false, Option, Some, None}
use Rattle.je_core.specs.declared.types.Base.{Base}
use Rattle.statement_steps.specs.Switches.{is_selector_base}

abbrev pub is_selector_if : Option Base → Bool
is_selector_if None = false
is_selector_if (Some b) = is_selector_base b
