use Rattle.std.proofs.Common.{arith}
use Rattle.source_subtypes.proofs.Equal.{some-shown}
use Rattle.source_subtypes.proofs.equality.are_none.Goals as goal

pub returns-in-len1-up : goal.returns-in-len1-up
returns-in-len1-up c = some-shown c.args.types.now (omega (arith, c.in-len1-up.len_at_least))
