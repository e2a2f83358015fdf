-- A part of a class, as the definition of what fits has it.
use Rattle.je_core.specs.declared.types.ClassId.{ClassId}
use Rattle.je_fitting.specs.Program.{Part, itself, a_field, a_method}
use Rattle.fit_program.specs.declared.misfit.Part.{Part as ThePart}
use Rattle.fit_program.specs.declared.misfit.Part.TheVariants.{Itself, Field, Method}

abbrev pub part_seen : ThePart → Part
part_seen Itself = itself
part_seen (Field n) = a_field n
part_seen (Method n) = a_method n

abbrev pub misfit_seen : ClassId × ThePart → ClassId × Part
misfit_seen m = (m.0, part_seen m.1)
