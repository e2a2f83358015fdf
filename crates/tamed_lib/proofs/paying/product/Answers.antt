use Rattle.std.proofs.Common.{arith}
use Rattle.std.proofs.lemmas.Nat.{mul-lt}
use Rattle.tamed_lib.proofs.paying.product.Goals as goal

pub overflow_mul-result : goal.overflow_mul-result
overflow_mul-result c = omega (arith, mul-lt c.args.count c.args.part 18446744073709551616 18446744073709551616 c.ranges.count.fits c.ranges.part.fits)
