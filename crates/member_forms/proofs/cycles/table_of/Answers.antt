use Rattle.std.proofs.Common.{arith}
use Rattle.member_forms.specs.Calls.{called_in}
use Rattle.member_forms.proofs.Ways.{call_more}
use Rattle.member_forms.proofs.cycles.table_of.Goals as goal

pub loop-call-preserved : goal.loop-call-preserved
loop-call-preserved c = call_more c.args.calls.now c.loop-call.call-index _ (called_in c.loop-call.table.items) (called_in c.add_call.new.table.items) (omega arith)
    c.in_ok-add_call.ensures c.loop-call.invariant
