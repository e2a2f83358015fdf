-- What units import, import by import.
use Rattle.std.specs.Prelude.{ℕ, List, map, Option, Some, slice_get, if◌then◌else◌}
use Rattle.je_base.specs.declared.span.NameId.{NameId}
use Rattle.je_ast.specs.declared.decl.Unit.{Unit}
use Rattle.je_ast.specs.Types.{QualifiedName}
use Rattle.je_ast.specs.View.{unit_view}
use Rattle.je_scopes.specs.Looks.{Look, nothing, found}
use Rattle.je_scopes.specs.Scope.{is_last_part, last_part, or_no_imports, same_place}
use Rattle.je_scopes.specs.Source.{imports_of, library_class}

-- only in the unit of this place
abbrev pub in_unit : ℕ → Option ℕ → Look → Look
in_unit unit p look = if same_place (Some unit) p then look else nothing

-- the class that an import gives a name
abbrev pub import_named : List (List ℕ) → NameId → QualifiedName → Look
import_named texts x q = if is_last_part x (last_part q.parts) then found (library_class texts q.parts) else nothing

abbrev pub imports_among : List Unit → ℕ → List QualifiedName
imports_among units u = or_no_imports (slice_get (map imports_of (map unit_view units)) u)
