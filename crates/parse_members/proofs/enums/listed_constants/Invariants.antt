use Rattle.std.proofs.Common.{◌≡◌, ◌-◌, length, []}
use Rattle.parse_laws.specs.way.Members.{more_constants_at}
use Rattle.parse_members.proofs.enums.listed_constants.Given as goal

abbrev pub invariant-loop : goal.invariant-loop
invariant-loop l = more_constants_at (length l.fn.tokens - l.counter) l.items.items l.next ≡ more_constants_at (length l.fn.tokens) [] l.fn.tokens
