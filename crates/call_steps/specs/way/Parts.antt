-- The constructors of a type, by its class and type arguments.
use Rattle.std.specs.Prelude.{List, [], Option, Some, None}
use Rattle.je_scopes.specs.Sites.{Site}
use Rattle.je_scopes.specs.SourceTypes.{of_class}
use Rattle.declarations.specs.Declarations.{DeclaredClass}
use Rattle.class_methods.specs.way.Parts.{Parts}
use Rattle.call_typing.specs.Constructors.{constructors_in}
use Rattle.call_typing.specs.Overloads.{Candidate}

abbrev pub constructors_if : List Site → List DeclaredClass → Option Parts → List Candidate
constructors_if sites classes None = []
constructors_if sites classes (Some p) = constructors_in sites classes (of_class p.class p.arguments 0)
