use Rattle.std.proofs.Common.{◌≡◌, drop, length, map}
use Rattle.std.specs.List.{find}
use Rattle.member_forms.specs.Calls.{called_in, leads_back_by, own_call_seen}
use Rattle.member_forms.proofs.cycles.first_back.Given as goal

abbrev pub invariant-loop-call : goal.invariant-loop-call
invariant-loop-call l = find (leads_back_by (called_in l.table) (length l.calls)) (map own_call_seen (drop l.call-index l.calls))
    ≡ find (leads_back_by (called_in l.table) (length l.calls)) (map own_call_seen l.calls)
