-- What contracts see of a program that was checked: the program.
use Rattle.je_core.specs.Core.{CoreProgram}
use Rattle.je_core.specs.View.{program_view}
use Rattle.je_types.specs.declared.typed.Typed.{Typed}

abbrev pub program_of : Typed → CoreProgram
program_of typed = program_view typed.program
