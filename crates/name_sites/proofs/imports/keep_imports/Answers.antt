use Rattle.std.proofs.Common.{arith}
use Rattle.je_scopes.specs.Looks.{found}
use Rattle.name_sites.specs.ByName.{kept}
use Rattle.name_sites.proofs.ImportSteps.{imports_on}
use Rattle.name_sites.proofs.imports.keep_imports.Goals as goal

pub loop-import-preserved : goal.loop-import-preserved
loop-import-preserved c = λ p x. imports_on c.args.unit p c.args.names.now x c.args.imports.now c.loop-import.import-index c.import-item.result (omega arith) c.import-item.is
    (found (kept c.loop-import.imported p x)) (found (kept c.keep_import.new.imported p x)) _ (c.in_ok-keep_import.ensures p x) (c.loop-import.invariant p x)
