use Rattle.std.proofs.Common.{arith, ap, length}
use Rattle.std.proofs.lemmas.List.{length-map}
use Rattle.je_table.specs.Rows.{class_said}
use Rattle.name_walk.proofs.walks.library_size.Goals as goal

pub returns : goal.returns
returns c = omega (arith, ap length c.class_rows.ensures, length-map c.class_rows.result.now class_said)
