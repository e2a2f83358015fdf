-- How a class itself has a method for another one: not, as one that is abstract again, or at a place.
use Rattle.std.specs.Prelude.{ℕ, Option, Some, None, if◌then◌else◌}
use Rattle.je_core.specs.Core.{CoreMethod}
use Rattle.class_members.specs.declared.dispatch.Own.{Own}
use Rattle.class_members.specs.declared.dispatch.Own.TheVariants.{Absent, Abstract, At}

abbrev pub own_of : Option (ℕ × CoreMethod) → Own
own_of None = Absent
own_of (Some own) = if own.1.flags.is_abstract then Abstract else At own.0
