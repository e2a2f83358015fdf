use Rattle.std.proofs.Common.{sym, ◌∙◌, arith}
use Rattle.type_faults.specs.Program.{source_in}
use Rattle.name_judge.proofs.Back.{item_there, leads, one_fails}
use Rattle.name_judge.proofs.cycles.Cycles.lead_back.Goals as goal

pub leads_back-requires-clause-named : goal.leads_back-requires-clause-named
leads_back-requires-clause-named c = c.requires.named _ (item_there c.args.named.now c.loop-other.other-index _ (omega arith))

pub loop-other-preserved : goal.loop-other-preserved
loop-other-preserved c = one_fails (leads (source_in c.args.program.now) c.args.class.0) c.args.named.now c.loop-other.other-index _ (omega arith) _ (sym c.if-branch.false ∙ c.in_ok-leads_back.ensures) c.loop-other.invariant
