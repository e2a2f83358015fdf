-- A group more, and a catch more.
use Rattle.std.proofs.Common.{◌≡◌, refl}
use Rattle.std.specs.Prelude.{Option}
use Rattle.je_core.specs.declared.types.ClassId.{ClassId}
use Rattle.je_core.specs.Core.{CoreGroup, CoreGroups, CoreCatch, CoreCatches, group, more_groups, catch, more_catches}
use Rattle.flow_base.specs.FaultSets.{◌∪◌}
use Rattle.variable_sets.specs.Sets.{Set}
use Rattle.assignment_rules.specs.Rules.{Follow}
use Rattle.assigned_statements.specs.Untouched.{groups_untouched, catches_untouched}
use Rattle.assignment_rules.specs.Ends.{Ends, one_of}
use Rattle.assigned_statements.specs.Statements.{groups_end, catches_end, groups_faults, catches_faults}
use Rattle.assigned_statements.specs.way.Parts.{group_ends, group_faults, catch_ends, catch_faults, group_untouched, catch_untouched}

pub groups_end_step : (h : Follow) (b : Set) (e : Ends) (g : CoreGroup) (gs : CoreGroups) → groups_end h b e (more_groups g gs) ≡ groups_end h b (group_ends h b e g) gs
groups_end_step h b e (group labels parts) gs = refl

pub groups_faults_step : (h : Follow) (b : Set) (e : Ends) (g : CoreGroup) (gs : CoreGroups) →
    groups_faults h b e (more_groups g gs) ≡ (group_faults h b e g ∪ groups_faults h b (group_ends h b e g) gs)
groups_faults_step h b e (group labels parts) gs = refl

pub catches_end_step : (h : Follow) (b : Set) (e : Ends) (c : CoreCatch) (cs : CoreCatches) → catches_end h b e (more_catches c cs) ≡ catches_end h b (one_of e (catch_ends h b c)) cs
catches_end_step h b e (catch local class span body) cs = refl

pub catches_faults_step : (h : Follow) (b : Set) (c : CoreCatch) (cs : CoreCatches) → catches_faults h b (more_catches c cs) ≡ (catch_faults h b c ∪ catches_faults h b cs)
catches_faults_step h b (catch local class span body) cs = refl

pub groups_untouched_step : (h : Option ClassId) (b : Set) (g : CoreGroup) (gs : CoreGroups) → groups_untouched h b (more_groups g gs) ≡ groups_untouched h (group_untouched h b g) gs
groups_untouched_step h b (group labels parts) gs = refl

pub catches_untouched_step : (h : Option ClassId) (b : Set) (c : CoreCatch) (cs : CoreCatches) → catches_untouched h b (more_catches c cs) ≡ catches_untouched h (catch_untouched h b c) cs
catches_untouched_step h b (catch local class span body) cs = refl

pub ruleset groups_step = (groups_end_step, groups_faults_step)

pub ruleset catches_step = (catches_end_step, catches_faults_step)

pub ruleset untouched_step = (groups_untouched_step, catches_untouched_step)
