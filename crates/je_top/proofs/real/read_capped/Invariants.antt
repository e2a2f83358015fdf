use Rattle.std.proofs.Common.{◌≤◌, ◌+◌, vec_len}
use Rattle.je_top.specs.declared.TheConstants.{FILE_LIMIT}
use Rattle.je_top.proofs.real.read_capped.Given as goal

-- at most one byte past the limit
abbrev pub invariant-loop : goal.invariant-loop
invariant-loop g l = vec_len l.into ≤ FILE_LIMIT + 1
