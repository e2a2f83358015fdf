-- What a type means that is written at a place in a program.
use Rattle.je_ast.specs.Types.{TypeName}
use Rattle.je_scopes.specs.SourceTypes.{SourceType}
use Rattle.name_lookup.specs.declared.Place.{Place}
use Rattle.name_lookup.specs.View.{part_view}
use Rattle.type_faults.specs.Program.{source_in}
use Rattle.declarations.specs.Declarations.{type_at}
use Rattle.written_types.specs.declared.walk.Surroundings.{Surroundings}

abbrev pub means : Surroundings → Place → TypeName → SourceType
means all place = type_at (source_in all.program.now) place.class.0 (part_view place.part)
