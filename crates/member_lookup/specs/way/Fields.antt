-- How a field's name is looked for upwards.
use Rattle.std.specs.Prelude.{ℕ, Bool, ◌||◌, List, [], ◌∷◌, Option, Some, None, is_some, if◌then◌else◌}
use Rattle.je_base.specs.declared.span.NameId.{NameId}
use Rattle.je_core.specs.declared.types.ClassId.{ClassId}
use Rattle.je_core.specs.Core.{CoreProgram}
use Rattle.je_classes.specs.Fields.{declared_field, can_inherit_field}
use Rattle.je_classes.specs.Hierarchy.{supers_of, same_class}
use Rattle.je_classes.specs.Members.{Member, Found, nothing, one, joined}

-- on from a class that declares no field of the name
abbrev pub next_if : Option ℕ → List ClassId → List ClassId
next_if (Some at) supers = []
next_if None supers = supers

abbrev pub next_field : CoreProgram → NameId → ClassId → List ClassId
next_field program name c = next_if (declared_field program name c) (supers_of program c)

abbrev pub one_if : Bool → Member → Found
one_if b m = if b then one m else nothing

abbrev pub field_if : CoreProgram → ClassId → ClassId → Option ℕ → Found
field_if program own d None = nothing
field_if program own d (Some at) = one_if (same_class d own || can_inherit_field program (record { class = d; at = at })) (record { class = d; at = at })

-- what a class has from another one
abbrev pub field_in : CoreProgram → NameId → ClassId → ClassId → Found
field_in program name own d = field_if program own d (declared_field program name d)

-- and from some, beside what was found
abbrev pub joined_from : (ClassId → Found) → Found → List ClassId → Found
joined_from f found [] = found
joined_from f found (d ∷ ds) = joined_from f (joined found (f d)) ds
