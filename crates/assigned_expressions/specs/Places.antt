-- Which variable an expression names: a local, or a field of the class at home, that of the object itself or a static one. No
-- class is at home in a body where all fields count as assigned.
use Rattle.std.specs.Prelude.{ℕ, Bool, false, Option, Some, None, nat_eq, if◌then◌else◌}
use Rattle.je_core.specs.declared.types.ClassId.{ClassId}
use Rattle.je_base.specs.declared.span.Span.{Span}
use Rattle.je_core.specs.Core.{Core, CoreForm, form_of, node}
use Rattle.je_core.specs.Core as core
use Rattle.variable_sets.specs.Numbers.{local_number, field_number}

abbrev pub is_home : Option ClassId → ClassId → Bool
is_home None class = false
is_home (Some home) class = nat_eq home.0 class.0

abbrev pub own_field : Option ClassId → ClassId → ℕ → Option ℕ
own_field home class field = if is_home home class then Some (field_number field) else None

abbrev pub field_of : Option ClassId → ClassId → ℕ → CoreForm → Option ℕ
field_of home class field core.This = own_field home class field
field_of home class field _ = None

abbrev pub variable_in : Option ClassId → CoreForm → Option ℕ
variable_in home (core.Local local) = Some (local_number local)
variable_in home (core.Field object class field) = field_of home class field (form_of object)
variable_in home (core.Static object class field) = own_field home class field
variable_in home _ = None

abbrev pub variable_of : Option ClassId → Core → Option ℕ
variable_of home e = variable_in home (form_of e)

-- the token that a rule points to
abbrev pub at_of : Core → Span
at_of (node form ty span at) = at
