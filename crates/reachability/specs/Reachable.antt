-- Which statements can be reached, which can complete normally, and by which reachable jumps they are left (JLS 14.21).
-- Whether a statement can be reached comes from what stands round it. `label` is the label directly before a statement.
use Rattle.std.specs.Prelude.{Bool, true, false, not, ◌&&◌, ◌||◌, Option, Some, None, List, [], ◌∷◌, if◌then◌else◌}
use Rattle.je_base.specs.declared.span.NameId.{NameId}
use Rattle.je_core.specs.Core.{CoreStmt, CoreStmtForm, CoreStmts, MaybeStmt, CoreLabel, CoreGroups, CoreCatches, stmt, no_stmts, more_stmts, no_stmt, a_stmt, group, no_groups, more_groups, catch, no_catches, more_catches}
use Rattle.je_core.specs.Core as core
use Rattle.flow_base.specs.declared.faults.FaultKind.TheVariants as kind
use Rattle.flow_base.specs.declared.jumps.Way.TheVariants.{Breaks, Continues}
use Rattle.flow_base.specs.Constants.{is_true, is_false}
use Rattle.flow_base.specs.Switches.{has_default}
use Rattle.flow_base.specs.FaultSets.{Faults, none, ◌∪◌, fault_where}
use Rattle.reachability.specs.Jumps.{Jumps, no_jumps, jump_where, joined, beyond}

-- whether a statement can complete normally, and the reachable jumps that leave it
pub record Ends : Type 0 where
  pub completes : Bool
  pub jumps : Jumps

abbrev pub ends : Bool → Jumps → Ends
ends completes jumps = record { completes = completes; jumps = jumps }

-- a statement that no jump leaves
abbrev pub going_on : Bool → Ends
going_on completes = ends completes no_jumps

-- one of the two ends so
abbrev pub either : Ends → Ends → Ends
either a b = ends (a.completes || b.completes) (joined a.jumps b.jumps)

-- one behind the other
abbrev pub in_turn : Ends → Ends → Ends
in_turn before after = ends after.completes (joined before.jumps after.jumps)

-- a reachable `continue` continues the loop: without a label, or with the loop's own
abbrev pub is_continued : Option NameId → Jumps → Bool
is_continued None jumps = jumps.by (Continues None)
is_continued (Some label) jumps = jumps.by (Continues None) || jumps.by (Continues (Some label))

abbrev pub past_label : Option NameId → Jumps → Jumps
past_label None jumps = jumps
past_label (Some label) jumps = beyond (Continues (Some label)) jumps

-- A loop can complete normally where its condition can end it, or a reachable break.
abbrev pub loop_ends : Option NameId → Ends → Bool → Ends
loop_ends label inside by_condition =
    ends (by_condition || inside.jumps.by (Breaks None)) (past_label label (beyond (Continues None) (beyond (Breaks None) inside.jumps)))

-- A labelled statement can complete normally where the statement behind the label can, or by a reachable break.
abbrev pub labelled_ends : NameId → Ends → Ends
labelled_ends label inside = ends (inside.completes || inside.jumps.by (Breaks (Some label))) (beyond (Breaks (Some label)) inside.jumps)

-- A statement of a switch can be reached where the switch can, and it bears a label or the statement before it can complete normally.
abbrev pub enters : Bool → List CoreLabel → Bool → Bool
enters reachable [] before = reachable && before
enters reachable (l ∷ ls) before = reachable

-- A switch can complete normally where its last group can, where it has no `default`, or by a reachable break. One without groups has no
-- `default`; labels at its end are a group without statements.
abbrev pub switch_ends : Bool → Bool → Ends → Ends
switch_ends reachable default inside =
    ends ((if default then inside.completes else reachable) || inside.jumps.by (Breaks None)) (beyond (Breaks None) inside.jumps)

-- A `try` with a `finally` can complete normally where that can too; jumps leave through a `finally` that can complete normally.
abbrev pub past_finally : Ends → Ends → Ends
past_finally before last =
    ends (before.completes && last.completes) (joined (if last.completes then before.jumps else no_jumps) last.jumps)

abbrev pub jump_ends : Bool → Bool → Option NameId → Ends
jump_ends reachable false label = ends false (jump_where reachable (Breaks label))
jump_ends reachable true label = ends false (jump_where reachable (Continues label))

abbrev mutual
  pub statement_ends : Option NameId → Bool → CoreStmt → Ends
  statement_ends label reachable (stmt form span at) = form_ends label reachable form

  pub form_ends : Option NameId → Bool → CoreStmtForm → Ends
  form_ends label reachable core.Empty = going_on reachable
  form_ends label reachable (core.Block locals parts) = parts_end (going_on reachable) parts
  form_ends label reachable (core.Do e) = going_on reachable
  form_ends label reachable (core.If c chosen other) = either (statement_ends None reachable chosen) (part_ends reachable other)
  form_ends label reachable (core.Loop c steps body) =
      loop_ends label (statement_ends None (reachable && not (is_false c)) body) (reachable && not (is_true c))
  form_ends label reachable (core.DoLoop body c) =
      let inside = statement_ends None reachable body in
      loop_ends label inside ((inside.completes || is_continued label inside.jumps) && not (is_true c))
  form_ends label reachable (core.Switch locals selector groups) =
      switch_ends reachable (has_default groups) (groups_end reachable (going_on false) groups)
  form_ends label reachable (core.Labelled name body) = labelled_ends name (statement_ends (Some name) reachable body)
  form_ends label reachable (core.Jump again target) = jump_ends reachable again target
  form_ends label reachable (core.Return value) = going_on false
  form_ends label reachable (core.Throw e) = going_on false
  form_ends label reachable (core.Try body catches last) = last_ends reachable (catches_end reachable (statement_ends None reachable body) catches) last

  -- A statement of a block can be reached where the one before it can complete normally.
  pub parts_end : Ends → CoreStmts → Ends
  parts_end before no_stmts = before
  parts_end before (more_stmts s ss) = parts_end (in_turn before (statement_ends None before.completes s)) ss

  -- An `if` without `else` can complete normally where it can be reached, whatever its condition.
  pub part_ends : Bool → MaybeStmt → Ends
  part_ends reachable no_stmt = going_on reachable
  part_ends reachable (a_stmt s) = statement_ends None reachable s

  pub groups_end : Bool → Ends → CoreGroups → Ends
  groups_end reachable before no_groups = before
  groups_end reachable before (more_groups (group labels parts) gs) =
      groups_end reachable (parts_end (ends (enters reachable labels before.completes) before.jumps) parts) gs

  -- A `try` can complete normally where its block or a catch can.
  pub catches_end : Bool → Ends → CoreCatches → Ends
  catches_end reachable before no_catches = before
  catches_end reachable before (more_catches (catch local class span body) cs) =
      catches_end reachable (either before (statement_ends None reachable body)) cs

  pub last_ends : Bool → Ends → MaybeStmt → Ends
  last_ends reachable before no_stmt = before
  last_ends reachable before (a_stmt s) = past_finally before (statement_ends None reachable s)

-- ---- a fault for each statement that can't be reached: its first token

abbrev mutual
  pub statement_faults : Bool → CoreStmt → Faults
  statement_faults reachable (stmt form span at) = fault_where (not reachable) kind.Unreachable span ∪ form_faults reachable form

  pub form_faults : Bool → CoreStmtForm → Faults
  form_faults reachable (core.Block locals parts) = parts_faults (going_on reachable) parts
  form_faults reachable (core.If c chosen other) = statement_faults reachable chosen ∪ part_faults reachable other
  -- The body of a `while` or `for` can be reached where the loop can and its condition isn't constantly false.
  form_faults reachable (core.Loop c steps body) = statement_faults (reachable && not (is_false c)) body
  form_faults reachable (core.DoLoop body c) = statement_faults reachable body
  form_faults reachable (core.Switch locals selector groups) = groups_faults reachable (going_on false) groups
  form_faults reachable (core.Labelled name body) = statement_faults reachable body
  form_faults reachable (core.Try body catches last) =
      statement_faults reachable body ∪ catches_faults reachable catches ∪ part_faults reachable last
  form_faults reachable core.Empty = none
  form_faults reachable (core.Do e) = none
  form_faults reachable (core.Jump again target) = none
  form_faults reachable (core.Return value) = none
  form_faults reachable (core.Throw e) = none

  pub parts_faults : Ends → CoreStmts → Faults
  parts_faults before no_stmts = none
  parts_faults before (more_stmts s ss) =
      statement_faults before.completes s ∪ parts_faults (in_turn before (statement_ends None before.completes s)) ss

  pub part_faults : Bool → MaybeStmt → Faults
  part_faults reachable no_stmt = none
  part_faults reachable (a_stmt s) = statement_faults reachable s

  pub groups_faults : Bool → Ends → CoreGroups → Faults
  groups_faults reachable before no_groups = none
  groups_faults reachable before (more_groups (group labels parts) gs) =
      let first = ends (enters reachable labels before.completes) before.jumps in
      parts_faults first parts ∪ groups_faults reachable (parts_end first parts) gs

  pub catches_faults : Bool → CoreCatches → Faults
  catches_faults reachable no_catches = none
  catches_faults reachable (more_catches (catch local class span body) cs) = statement_faults reachable body ∪ catches_faults reachable cs
