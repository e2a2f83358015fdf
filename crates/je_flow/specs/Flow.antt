-- What the rules of flow say of a program: its faults are those of reachability (JLS 14.21), of definite assignment and of definite
-- unassignment (JLS 16), and of exceptions (JLS 11.2).
use Rattle.std.specs.Prelude.{⊤}
use Rattle.je_core.specs.Core.{CoreProgram}
use Rattle.flow_base.specs.declared.faults.FlowFault.{FlowFault}
use Rattle.flow_base.specs.FaultSets.{Faults, ◌∪◌, IsAmong, IsFirst}
use Rattle.reachability.specs.Programs.{program_faults as unreachable_faults}
use Rattle.assignment_rules.specs.declared.rules.Rule.TheVariants.{Assigned, Unassigned}
use Rattle.definite_assignment.specs.Programs.{program_faults as assignment_faults}
use Rattle.reported_exceptions.specs.Programs.{program_faults as exception_faults}
use Rattle.je_flow.specs.declared.refusal.Refusal.{Refusal}
use Rattle.je_flow.specs.declared.refusal.Refusal.TheVariants as refusal

unfoldable pub flow_faults : CoreProgram → Faults
flow_faults p = unreachable_faults p ∪ assignment_faults Assigned p ∪ assignment_faults Unassigned p ∪ exception_faults p

-- It has no fault.
abbrev pub Flows : CoreProgram → Type 0
Flows p = (f : FlowFault) → ¬ IsAmong f (flow_faults p)

-- A fault is the first one of the program. Want of memory says nothing of it.
abbrev pub IsRefused : CoreProgram → Refusal → Type 0
IsRefused p refusal.Memory = ⊤
IsRefused p (refusal.Fault f) = IsFirst (flow_faults p) f
