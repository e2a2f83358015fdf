use Rattle.std.proofs.Common.{◌≡◌, ◌++◌, drop}
use Rattle.parse_operators.proofs.literals.copy.Given as goal

abbrev pub invariant-loop-unit : goal.invariant-loop-unit
invariant-loop-unit l = l.units ++ drop l.unit-index l.kept ≡ l.kept
