-- The fault that a walk keeps of a set, one fault after another.
use Rattle.std.specs.Prelude.{Option, Some, None, if◌then◌else◌}
use Rattle.flow_base.specs.declared.faults.FlowFault.{FlowFault}
use Rattle.flow_base.specs.FaultSets.{Faults, none, one, ◌∪◌, stands_before, IsFirstOf}

-- the first of a fault and the one before it
abbrev pub kept : Option FlowFault → FlowFault → Option FlowFault
kept None f = Some f
kept (Some first) f = if stands_before f first then Some f else Some first

-- the first of these faults and the one before them
abbrev pub first_of : Option FlowFault → Faults → Option FlowFault
first_of before none = before
first_of before (one f) = kept before f
first_of before (a ∪ b) = first_of (first_of before a) b

abbrev pub KeptIsFirst : Type 0
KeptIsFirst = (faults : Faults) → IsFirstOf faults (first_of None faults)
