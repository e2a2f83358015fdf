-- A group and a catch by themselves.
use Rattle.std.specs.Prelude.{Bool}
use Rattle.je_core.specs.Core.{CoreStmt, CoreGroup, CoreCatch, group, catch}
use Rattle.flow_base.specs.FaultSets.{Faults}
use Rattle.reachability.specs.Reachable.{Ends, ends, enters, parts_end, parts_faults}

abbrev pub group_ends : Bool → Ends → CoreGroup → Ends
group_ends reachable before (group labels parts) = parts_end (ends (enters reachable labels before.completes) before.jumps) parts

abbrev pub group_faults : Bool → Ends → CoreGroup → Faults
group_faults reachable before (group labels parts) = parts_faults (ends (enters reachable labels before.completes) before.jumps) parts

abbrev pub body_of : CoreCatch → CoreStmt
body_of (catch local class span body) = body
