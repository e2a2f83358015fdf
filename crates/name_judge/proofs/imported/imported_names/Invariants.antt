use Rattle.std.proofs.Common.{◌≡◌, Some, drop, map}
use Rattle.std.specs.Prelude.{◌||◌}
use Rattle.std.specs.List.{list_any}
use Rattle.je_base.specs.declared.span.NameId.{NameId}
use Rattle.je_scopes.specs.Faults.{imports_name, is_imported}
use Rattle.name_sites.specs.View.{source_of}
use Rattle.name_faults.specs.Met.{is_met}
use Rattle.name_faults.proofs.EarlierImports.{imports_in}
use Rattle.name_judge.proofs.imported.imported_names.Given as goal

abbrev pub invariant-loop-unit : goal.invariant-loop-unit
invariant-loop-unit l = (x : NameId) → (is_met l.met x || list_any (λ qs. list_any (imports_name (source_of l.sites).texts (Some x)) qs) (map imports_in (drop l.unit-index l.units)))
    ≡ is_imported (source_of l.sites) (Some x)
