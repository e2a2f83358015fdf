use Rattle.std.proofs.Common.{◌-◌, ◌+◌, sym, arith}
use Rattle.member_forms.specs.Calls.{called_in}
use Rattle.member_forms.proofs.Ways.{goes_on, not_same}
use Rattle.member_forms.proofs.cycles.leads_back.Goals as goal

pub loop-preserved : goal.loop-preserved
loop-preserved c = goes_on (called_in c.args.table.now) c.args.place (c.args.count - c.loop.counter) (c.args.count - (c.loop.counter + 1)) c.loop.at c.in-Some.to _
    (omega arith) (sym c.in-Some.ensures) (not_same c.in-Some.to c.args.place c.if-to-place.false) c.loop.invariant
