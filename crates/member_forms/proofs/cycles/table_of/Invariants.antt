use Rattle.std.proofs.Common.{◌≡◌, ℕ, take, map}
use Rattle.class_typing.specs.Constructors.{call_at}
use Rattle.member_forms.specs.Calls.{called_in, own_call_seen, to_of}
use Rattle.member_forms.proofs.cycles.table_of.Given as goal

abbrev pub invariant-loop-call : goal.invariant-loop-call
invariant-loop-call l = (n : ℕ) → called_in l.table.items n ≡ to_of (call_at (map own_call_seen (take l.call-index l.calls)) n)
