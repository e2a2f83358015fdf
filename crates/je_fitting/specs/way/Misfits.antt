-- The first part of a program whose test fails.
use Rattle.std.specs.Prelude.{ℕ, zero, suc, Bool, length, Option, Some, None, slice_get, if◌then◌else◌}
use Rattle.je_core.specs.declared.types.ClassId.{ClassId}
use Rattle.je_core.specs.Core.{CoreClass, CoreProgram}
use Rattle.je_classes.specs.Hierarchy.{class_at}
use Rattle.je_fitting.specs.Program.{Part, itself, a_field, a_method}
use Rattle.je_fitting.specs.way.DecidingMembers.{is_field_fit, is_method_fit}
use Rattle.je_fitting.specs.way.DecidingClasses.{is_class_fit, is_whole_fit}
use Rattle.je_fitting.specs.way.Quantifying.{if_there}

abbrev pub earlier_or : Option ℕ → Option ℕ → Option ℕ
earlier_or None later = later
earlier_or (Some i) later = Some i

-- the least number below a bound for which a test fails
abbrev pub least_failing : (ℕ → Bool) → ℕ → Option ℕ
least_failing test zero = None
least_failing test (suc n) = earlier_or (least_failing test n) (if test n then None else Some n)

abbrev pub as_method : Option ℕ → Option Part
as_method None = None
as_method (Some i) = Some (a_method i)

abbrev pub as_field_or : Option ℕ → Option Part → Option Part
as_field_or None later = later
as_field_or (Some i) later = Some (a_field i)

abbrev pub class_passes : CoreProgram → ℕ → Bool
class_passes program n = if_there (is_whole_fit program (record { 0 = n })) (class_at program (record { 0 = n }))

abbrev pub field_passes : CoreProgram → ClassId → CoreClass → ℕ → Bool
field_passes program class c n = if_there (is_field_fit program class) (slice_get c.fields n)

abbrev pub method_passes : CoreProgram → ClassId → CoreClass → ℕ → Bool
method_passes program class c n = if_there (is_method_fit program class c) (slice_get c.methods n)

-- of a class
abbrev pub first_part : CoreProgram → ClassId → CoreClass → Option Part
first_part program class c =
    if is_class_fit program class c then as_field_or (least_failing (field_passes program class c) (length c.fields)) (as_method (least_failing (method_passes program class c) (length c.methods)))
    else Some itself

abbrev pub in_class : ClassId → Option Part → Option (ClassId × Part)
in_class class None = None
in_class class (Some part) = Some (class, part)

abbrev pub part_of : CoreProgram → ClassId → Option CoreClass → Option (ClassId × Part)
part_of program class None = None
part_of program class (Some c) = in_class class (first_part program class c)

abbrev pub misfit_in : CoreProgram → Option ℕ → Option (ClassId × Part)
misfit_in program None = None
misfit_in program (Some n) = part_of program (record { 0 = n }) (class_at program (record { 0 = n }))

-- of the program
unfoldable pub first_misfit : CoreProgram → Option (ClassId × Part)
first_misfit program = misfit_in program (least_failing (class_passes program) (length program.classes))
