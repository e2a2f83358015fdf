use Rattle.std.proofs.Common.{◌≡◌, Some, drop, map}
use Rattle.std.specs.Prelude.{◌||◌}
use Rattle.std.specs.List.{list_any}
use Rattle.je_base.specs.declared.span.NameId.{NameId}
use Rattle.je_ast.specs.Types.{name_view}
use Rattle.je_scopes.specs.Faults.{imports_name}
use Rattle.name_sites.specs.View.{source_of}
use Rattle.name_faults.specs.Met.{is_met}
use Rattle.name_judge.proofs.imported.meet_imports.Given as goal

abbrev pub invariant-loop-import : goal.invariant-loop-import
invariant-loop-import l = (x : NameId) → (is_met l.met x || list_any (imports_name (source_of l.sites).texts (Some x)) (map name_view (drop l.import-index l.imports)))
    ≡ (is_met l.initial.met x || list_any (imports_name (source_of l.sites).texts (Some x)) (map name_view l.imports))
