-- What contracts see of the nesting of a program's classes: the program.
use Rattle.je_core.specs.Core.{CoreProgram}
use Rattle.je_core.specs.View.{program_view}
use Rattle.captured_reads.specs.declared.nesting.Nesting.{Nesting}

abbrev pub program_of : Nesting → CoreProgram
program_of nesting = program_view nesting.program.now
