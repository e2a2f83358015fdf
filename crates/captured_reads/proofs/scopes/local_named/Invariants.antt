use Rattle.std.proofs.Common.{◌≡◌, drop}
use Rattle.captured_reads.specs.Scopes.{local_named}
use Rattle.captured_reads.proofs.scopes.local_named.Given as goal

abbrev pub invariant-loop-known : goal.invariant-loop-known
invariant-loop-known l = local_named l.name (drop l.known-index l.names) ≡ local_named l.name l.names
