-- What contracts see of what a name means as a variable.
use Rattle.std.specs.Prelude.{Bool, true, false}
use Rattle.name_typing.specs.Variables as words
use Rattle.name_typing.specs.Variables.{a_field, a_local, no_variable, unclear}
use Rattle.name_steps.specs.declared.finding.Variable.{Variable}
use Rattle.name_steps.specs.declared.finding.Variable.TheVariants.{Nothing, Local, Field, Unclear}
use Rattle.body_places.specs.Places.{local_seen}

abbrev pub variable_seen : Variable → words.Variable
variable_seen Nothing = no_variable
variable_seen (Local outwards local) = a_local outwards (local_seen local.now)
variable_seen (Field outwards class at) = a_field outwards (record { class = class; at = at })
variable_seen Unclear = unclear

abbrev pub is_no_variable : words.Variable → Bool
is_no_variable no_variable = true
is_no_variable _ = false
