-- A group more, and a catch more.
use Rattle.std.proofs.Common.{◌≡◌, List, [], ◌∷◌, ◌++◌, ◌||◌, refl}
use Rattle.je_core.specs.declared.types.ClassId.{ClassId}
use Rattle.je_core.specs.Core.{CoreGroup, CoreGroups, CoreCatch, CoreCatches, CoreProgram, group, more_groups, catch, more_catches}
use Rattle.je_classes.specs.Hierarchy.{is_below}
use Rattle.flow_base.specs.FaultSets.{◌∪◌}
use Rattle.reported_exceptions.specs.declared.throws.Throw.{Throw}
use Rattle.reported_exceptions.specs.Throws.{◌also◌, is_taken}
use Rattle.reported_exceptions.specs.Handled.{catch_fault, catch_faults}
use Rattle.reported_exceptions.specs.Statements.{statement_throws, parts_throw, groups_throw, catches_throw, statement_faults, parts_faults, groups_faults, catches_faults}
use Rattle.reported_exceptions.specs.way.Parts.{parts_of, class_of, span_of, body_of}

pub groups_throw_step : (p : CoreProgram) (m : List (List ClassId)) (g : CoreGroup) (gs : CoreGroups) → groups_throw p m (more_groups g gs) ≡ (parts_throw p m (parts_of g) also groups_throw p m gs)
groups_throw_step p m (group labels parts) gs = refl

pub groups_faults_step : (p : CoreProgram) (m : List (List ClassId)) (g : CoreGroup) (gs : CoreGroups) → groups_faults p m (more_groups g gs) ≡ (parts_faults p m (parts_of g) ∪ groups_faults p m gs)
groups_faults_step p m (group labels parts) gs = refl

pub catches_throw_step : (p : CoreProgram) (m : List (List ClassId)) (c : CoreCatch) (cs : CoreCatches) → catches_throw p m (more_catches c cs) ≡ (statement_throws p m (body_of c) also catches_throw p m cs)
catches_throw_step p m (catch local class span body) cs = refl

pub catches_faults_step : (p : CoreProgram) (m : List (List ClassId)) (c : CoreCatch) (cs : CoreCatches) → catches_faults p m (more_catches c cs) ≡ (statement_faults p m (body_of c) ∪ catches_faults p m cs)
catches_faults_step p m (catch local class span body) cs = refl

pub taken_step : (p : CoreProgram) (c : CoreCatch) (cs : CoreCatches) (class : ClassId) → is_taken p (more_catches c cs) class ≡ (is_below p class (class_of c) || is_taken p cs class)
taken_step p (catch local taken span body) cs class = refl

pub catch_faults_step : (p : CoreProgram) (ts : List Throw) (es : List ClassId) (c : CoreCatch) (cs : CoreCatches) → catch_faults p ts es (more_catches c cs) ≡ (catch_fault p ts es (class_of c) (span_of c) ∪ catch_faults p ts (es ++ class_of c ∷ []) cs)
catch_faults_step p ts es (catch local class span body) cs = refl

pub ruleset groups_step = (groups_throw_step, groups_faults_step)

pub ruleset catches_step = (catches_throw_step, catches_faults_step)
