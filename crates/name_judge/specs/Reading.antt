-- What types mean where they are read.
use Rattle.std.specs.Prelude.{List, map}
use Rattle.je_ast.specs.Types.{QualifiedName, TypeName, TypeNames, FormalParameter}
use Rattle.je_scopes.specs.Looks.{Look}
use Rattle.je_scopes.specs.Source.{Source}
use Rattle.je_scopes.specs.Scope.{meaning}
use Rattle.je_scopes.specs.SourceTypes.{SourceType, SourceTypes, source_type, source_types, types_named}
use Rattle.je_scopes.specs.Members.{formal_type}
use Rattle.name_sites.specs.View.{source_of}
use Rattle.name_lookup.specs.View.{known_of, part_view}
use Rattle.name_lookup.specs.Table.{AreHeadersOf}
use Rattle.name_judge.specs.declared.spelling.Around.{Around}

abbrev pub source_in : Around → Source
source_in a = source_of a.sites.now

abbrev pub HasHeaders : Around → Type 0
HasHeaders a = AreHeadersOf (source_in a) a.headers.now

-- what a name means
abbrev pub look_in : Around → QualifiedName → Look
look_in a q = meaning (source_in a) (known_of a.headers.now) a.place.class.0 (part_view a.place.part) q.parts

abbrev pub type_in : Around → TypeName → SourceType
type_in a t = source_type (source_in a) (known_of a.headers.now) a.place.class.0 (part_view a.place.part) t

abbrev pub types_in : Around → TypeNames → SourceTypes
types_in a ts = types_named (source_in a) (known_of a.headers.now) a.place.class.0 (part_view a.place.part) ts

abbrev pub parameters_in : Around → List FormalParameter → SourceTypes
parameters_in a fs = source_types (map (formal_type (source_in a) (known_of a.headers.now) a.place.class.0 (part_view a.place.part)) fs)
