use Rattle.std.proofs.Common.{◌≡◌, drop}
use Rattle.captured_reads.specs.Scopes.{local_in_scope}
use Rattle.captured_reads.proofs.scopes.local_in_scope.Given as goal

abbrev pub invariant-loop-number : goal.invariant-loop-number
invariant-loop-number l = local_in_scope l.locals (drop l.number-index l.scope) l.at l.name ≡ local_in_scope l.locals l.scope l.at l.name
