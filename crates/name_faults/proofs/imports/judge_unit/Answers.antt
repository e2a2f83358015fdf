use Rattle.std.proofs.Common.{arith}
use Rattle.name_sites.specs.View.{source_of}
use Rattle.name_faults.proofs.EarlierImports.{import_next, imports_end}
use Rattle.name_faults.proofs.imports.judge_unit.Goals as goal

pub loop-import-preserved : goal.loop-import-preserved
loop-import-preserved c = import_next (source_of c.args.sites.now) c.args.imports.now c.loop-import.import-index _ c.args.unit c.import-item.result c.requires (omega arith) c.import-item.is c.loop-import.invariant c.in_ok-judge_import.ensures

pub returns : goal.returns
returns c = imports_end (source_of c.args.sites.now) c.args.imports.now c.loop-import.import-index _ (omega arith) c.loop-import.invariant
