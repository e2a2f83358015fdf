use Rattle.std.proofs.Common.{◌≡◌, ℕ, Option, drop, map}
use Rattle.je_base.specs.declared.span.NameId.{NameId}
use Rattle.je_ast.specs.Types.{name_view}
use Rattle.je_scopes.specs.Looks.{found, or_further}
use Rattle.je_scopes.specs.Scope.{first_import}
use Rattle.name_sites.specs.ByName.{kept}
use Rattle.name_sites.specs.Imports.{in_unit}
use Rattle.name_sites.proofs.imports.keep_imports.Given as goal

abbrev pub invariant-loop-import : goal.invariant-loop-import
invariant-loop-import l = (p : Option ℕ) (x : NameId)
    → or_further (found (kept l.imported p x)) (in_unit l.unit p (first_import l.names x (map name_view (drop l.import-index l.imports))))
    ≡ or_further (found (kept l.initial.imported p x)) (in_unit l.unit p (first_import l.names x (map name_view l.imports)))
