use Rattle.std.proofs.Common.{◌≡◌, ℕ, Some, nat_lt, if◌then◌else◌}
use Rattle.je_base.specs.declared.span.NameId.{NameId}
use Rattle.je_scopes.specs.Looks.{found, nothing}
use Rattle.je_scopes.specs.Scope.{first_import}
use Rattle.name_sites.specs.ByName.{kept}
use Rattle.name_sites.specs.Imports.{imports_among}
use Rattle.name_sites.proofs.imports.imported_by_name.Given as goal

abbrev pub invariant-loop-at : goal.invariant-loop-at
invariant-loop-at l = (u : ℕ) (x : NameId) → found (kept l.imported (Some u) x) ≡ (if nat_lt u l.at then first_import l.names x (imports_among l.units u) else nothing)
