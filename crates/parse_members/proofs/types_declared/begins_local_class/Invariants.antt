use Rattle.std.proofs.Common.{◌≡◌, ◌-◌, length}
use Rattle.parse_laws.specs.way.Members.{begins_local_class_at}
use Rattle.parse_members.proofs.types_declared.begins_local_class.Given as goal

abbrev pub invariant-loop : goal.invariant-loop
invariant-loop l = begins_local_class_at (length l.fn.tokens - l.counter) l.rest ≡ begins_local_class_at (length l.fn.tokens) l.fn.tokens
