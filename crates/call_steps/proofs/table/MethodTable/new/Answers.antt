use Rattle.std.proofs.Common.{arith}
use Rattle.class_heads.specs.View.{classes_of}
use Rattle.source_subtypes.specs.View.{heads_of}
use Rattle.call_steps.proofs.ListedMethods.{has_them}
use Rattle.call_steps.proofs.table.MethodTable.new.Goals as goal

pub returns : goal.returns
returns c =
    has_them (heads_of c.args.heads.now) (classes_of c.args.classes) _ c.max-count.result
    (omega (arith, c.max-count.ensures, c.len.ensures)) (omega (arith, c.max-count.ensures, c.len-2.ensures)) c.in_ok-rows.ensures
