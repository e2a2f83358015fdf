-- What contracts see of a program.
use Rattle.je_scopes.specs.Source.{Source}
use Rattle.name_sites.specs.View.{source_of}
use Rattle.type_faults.specs.declared.program.Program.{Program}

abbrev pub source_in : Program → Source
source_in p = source_of p.sites.now
