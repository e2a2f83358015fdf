use Rattle.std.proofs.Common.{[], drop, map, take}
use Rattle.je_ast.specs.Types.{name_view}
use Rattle.je_scopes.specs.Faults.{of_imports}
use Rattle.name_sites.specs.View.{source_of}
use Rattle.name_faults.proofs.Left.{Left}
use Rattle.name_faults.proofs.imports.judge_unit.Given as goal

abbrev pub invariant-loop-import : goal.invariant-loop-import
invariant-loop-import l = Left l.initial.faults l.faults (of_imports (source_of l.sites).texts (map name_view (take l.import-index l.imports)) (map name_view (drop l.import-index l.imports)))
    (of_imports (source_of l.sites).texts [] (map name_view l.imports))
