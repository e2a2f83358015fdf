-- A group more, and a catch more.
use Rattle.std.proofs.Common.{◌≡◌, refl}
use Rattle.std.specs.Prelude.{Bool}
use Rattle.je_core.specs.Core.{CoreGroup, CoreGroups, CoreCatch, CoreCatches, group, more_groups, catch, more_catches}
use Rattle.flow_base.specs.FaultSets.{◌∪◌}
use Rattle.reachability.specs.Reachable.{Ends, either, statement_ends, groups_end, catches_end, statement_faults, groups_faults, catches_faults}
use Rattle.reachability.specs.way.Parts.{group_ends, group_faults, body_of}
use Rattle.std.specs.Prelude.{None}

pub groups_end_step : (r : Bool) (e : Ends) (g : CoreGroup) (gs : CoreGroups) → groups_end r e (more_groups g gs) ≡ groups_end r (group_ends r e g) gs
groups_end_step r e (group labels parts) gs = refl

pub groups_faults_step : (r : Bool) (e : Ends) (g : CoreGroup) (gs : CoreGroups) → groups_faults r e (more_groups g gs) ≡ (group_faults r e g ∪ groups_faults r (group_ends r e g) gs)
groups_faults_step r e (group labels parts) gs = refl

pub catches_end_step : (r : Bool) (e : Ends) (c : CoreCatch) (cs : CoreCatches) → catches_end r e (more_catches c cs) ≡ catches_end r (either e (statement_ends None r (body_of c))) cs
catches_end_step r e (catch local class span body) cs = refl

pub catches_faults_step : (r : Bool) (c : CoreCatch) (cs : CoreCatches) → catches_faults r (more_catches c cs) ≡ (statement_faults r (body_of c) ∪ catches_faults r cs)
catches_faults_step r (catch local class span body) cs = refl

pub ruleset groups_step = (groups_end_step, groups_faults_step)

pub ruleset catches_step = (catches_end_step, catches_faults_step)
