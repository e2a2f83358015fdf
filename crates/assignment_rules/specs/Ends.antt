-- How a statement ends, by how its parts end: which variables are definitely assigned, or definitely unassigned, after it
-- and before each exit of it by a jump (JLS 16.2). What is said of 'assigned' holds of both.
use Rattle.std.specs.Prelude.{Bool, true, false, Option, Some, None, List, [], ◌∷◌, if◌then◌else◌}
use Rattle.je_base.specs.declared.span.NameId.{NameId}
use Rattle.je_core.specs.Core.{CoreLabel}
use Rattle.flow_base.specs.declared.jumps.Way.TheVariants.{Breaks, Continues}
use Rattle.variable_sets.specs.Sets.{Set, everything, both, either}
use Rattle.variable_sets.specs.ExitSets.{Exits, no_exits, exit_by, met, beyond, gaining, limited}
use Rattle.assignment_rules.specs.declared.rules.Rule.{Rule}
use Rattle.assignment_rules.specs.declared.rules.Rule.TheVariants.{Assigned, Unassigned}

-- those after a statement, and before every exit of it by each way
pub record Ends : Type 0 where
  pub after : Set
  pub exits : Exits

abbrev pub ends : Set → Exits → Ends
ends after exits = record { after = after; exits = exits }

abbrev pub going_on : Set → Ends
going_on a = ends a no_exits

-- V is assigned after a jump, whatever V.
abbrev pub jumping : Exits → Ends
jumping exits = ends everything exits

-- one of the two ends so
abbrev pub one_of : Ends → Ends → Ends
one_of a b = ends (both a.after b.after) (met a.exits b.exits)

-- one behind the other
abbrev pub in_turn : Ends → Ends → Ends
in_turn before after = ends after.after (met before.exits after.exits)

-- before every `continue` of the loop: without a label, or with the loop's own
abbrev pub at_continues : Option NameId → Exits → Set
at_continues None exits = exits.by (Continues None)
at_continues (Some label) exits = both (exits.by (Continues None)) (exits.by (Continues (Some label)))

abbrev pub past_label : Option NameId → Exits → Exits
past_label None exits = exits
past_label (Some label) exits = beyond (Continues (Some label)) exits

-- 16.2.11, 16.2.12: before the condition of a `do` and the steps of a `for` is what is after the body and before every `continue`.
abbrev pub bottom : Option NameId → Ends → Set
bottom label inside = both inside.after (at_continues label inside.exits)

-- 16.2.10 to 16.2.12: V is assigned after a loop where it is after the condition when false and before every `break` of the loop.
abbrev pub loop_ends : Option NameId → Ends → Set → Ends
loop_ends label inside out =
    ends (both out (inside.exits.by (Breaks None))) (past_label label (beyond (Continues None) (beyond (Breaks None) inside.exits)))

-- 16.2.4
abbrev pub labelled_ends : NameId → Ends → Ends
labelled_ends label inside = ends (both inside.after (inside.exits.by (Breaks (Some label)))) (beyond (Breaks (Some label)) inside.exits)

-- 16.2.9: V is assigned before the statements of a group where it is after the group before and, if a label leads there, after the
-- selector.
abbrev pub entering : Set → List CoreLabel → Set → Set
entering start [] before = before
entering start (l ∷ ls) before = both before start

-- 16.2.9: V is assigned after a switch where it is at the end of the last group, before every `break` and, without `default`, after the
-- selector.
abbrev pub switch_ends : Bool → Set → Ends → Ends
switch_ends default start inside =
    ends (both (if default then inside.after else both inside.after start) (inside.exits.by (Breaks None))) (beyond (Breaks None) inside.exits)

-- 16.2.15: V is assigned after a `try` with a `finally` if it is after the block and the catches, or after the `finally`. V is
-- unassigned if it is after both. So too before the exits that pass it.
abbrev pub past_finally : Rule → Ends → Ends → Ends
past_finally Assigned before last = ends (either before.after last.after) (met (gaining last.after before.exits) last.exits)
past_finally Unassigned before last = ends (both before.after last.after) (met (limited last.after before.exits) last.exits)

abbrev pub jump_ends : Set → Bool → Option NameId → Ends
jump_ends b false label = jumping (exit_by (Breaks label) b)
jump_ends b true label = jumping (exit_by (Continues label) b)
