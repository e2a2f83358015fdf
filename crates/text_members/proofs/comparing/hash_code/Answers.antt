use Rattle.std.proofs.Common.{arith}
use Rattle.text_members.proofs.Comparison.{hash_is}
use Rattle.text_members.proofs.comparing.hash_code.Goals as goal

pub returns : goal.returns
returns c =
    hash_is c.args.units.now c.loop-unit.unit-index c.loop-unit.hash c.cast_signed.result (omega arith) c.loop-unit.invariant c.cast_signed.ensures
