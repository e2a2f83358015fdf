use Rattle.std.proofs.Common.{ap, length, map, ◌∙◌}
use Rattle.member_forms.specs.Calls.{called_in, own_call_seen}
use Rattle.member_forms.proofs.Ways.{count_same, none_leads, one_leads}
use Rattle.member_forms.proofs.cycles.no_cycle.Goals as goal

pub returns-in-None-clause-ok : goal.returns-in-None-clause-ok
returns-in-None-clause-ok c = none_leads (map own_call_seen c.args.calls.now) (called_in c.deref.result.now)
    (λ n. ap (λ t. called_in t n) c.deref.ensures.value ∙ c.in_ok-table.ensures n) (length c.args.calls.now) (count_same c.args.calls.now) c.in-None.ensures

pub returns-clause-err : goal.returns-clause-err
returns-clause-err c = one_leads (map own_call_seen c.args.calls.now) (called_in c.deref.result.now)
    (λ n. ap (λ t. called_in t n) c.deref.ensures.value ∙ c.in_ok-table.ensures n) (length c.args.calls.now) (own_call_seen c.in-Some.call) (count_same c.args.calls.now) c.in-Some.ensures
