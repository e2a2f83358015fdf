-- The fault of an import, by what its simple name means at the top of its unit.
use Rattle.std.specs.Prelude.{ℕ, List, [], ◌∷◌, Option, Some, None}
use Rattle.je_ast.specs.declared.name.Identifier.{Identifier}
use Rattle.je_ast.specs.Types.{QualifiedName}
use Rattle.je_scopes.specs.Looks.{Look, nothing}
use Rattle.je_scopes.specs.Source.{Source, library_class}
use Rattle.je_scopes.specs.Scope.{at_top, last_part}
use Rattle.je_scopes.specs.Faults.{Fault, is_other, twice, unknown, where_so}

abbrev pub last_at_top : Source → ℕ → Option Identifier → Look
last_at_top p unit None = nothing
last_at_top p unit (Some i) = at_top p unit i.name

abbrev pub of_class : Option ℕ → Look → QualifiedName → List Fault
of_class None meant q = unknown q.span ∷ []
of_class (Some c) meant q = where_so (is_other (Some c) meant) (twice q.span)

abbrev pub in_unit : Source → ℕ → QualifiedName → List Fault
in_unit p unit q = of_class (library_class p.texts q.parts) (last_at_top p unit (last_part q.parts)) q
