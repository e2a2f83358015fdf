use Rattle.std.proofs.Common.{[], drop, map}
use Rattle.std.specs.List.{flat_map}
use Rattle.je_scopes.specs.Faults.{of_imports}
use Rattle.name_sites.specs.View.{source_of}
use Rattle.name_faults.proofs.Left.{Left}
use Rattle.name_faults.proofs.EarlierImports.{imports_in}
use Rattle.name_faults.proofs.imports.judge_imports.Given as goal

abbrev pub invariant-loop-at : goal.invariant-loop-at
invariant-loop-at l = Left l.initial.faults l.faults (flat_map (of_imports (source_of l.sites).texts []) (map imports_in (drop l.at l.units)))
    (flat_map (of_imports (source_of l.sites).texts []) (source_of l.sites).imports)
