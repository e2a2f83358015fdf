-- None is kept, so that there is none.
use Rattle.std.proofs.Common.{◌≡◌, subst, sym, ◌∙◌}
use Rattle.std.specs.Prelude.{Option}
use Rattle.je_core.specs.View.{program_view}
use Rattle.flow_base.specs.declared.faults.FlowFault.{FlowFault}
use Rattle.flow_base.specs.FaultSets.{IsFirstOf}
use Rattle.flow_base.proofs.First.{kept_is_first}
use Rattle.je_flow.specs.Flow.{flow_faults}
use Rattle.je_flow.proofs.flow.Goals as goal

pub returns-in-None-clause-ok : goal.returns-in-None-clause-ok
returns-in-None-clause-ok c =
    subst (λ (first : Option FlowFault). IsFirstOf (flow_faults (program_view c.args.program.now)) first) (sym c.in_ok-first_fault.ensures ∙ c.in-None.is)
    (kept_is_first (flow_faults (program_view c.args.program.now)))
