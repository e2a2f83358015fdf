use Rattle.std.proofs.Common.{◌≡◌, ◌-◌}
use Rattle.member_forms.specs.Calls.{called_in, leads_by}
use Rattle.member_forms.proofs.cycles.leads_back.Given as goal

abbrev pub invariant-loop : goal.invariant-loop
invariant-loop l = leads_by (called_in l.table) (l.count - l.counter) l.place l.at ≡ leads_by (called_in l.table) l.count l.place l.place
