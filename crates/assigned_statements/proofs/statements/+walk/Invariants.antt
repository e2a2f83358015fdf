use Rattle.std.proofs.Common.{◌≡◌, drop, map}
use Rattle.je_core.specs.Core.{core_stmts, core_groups, core_catches}
use Rattle.je_core.specs.View.{stmt_views, group_view, catch_view}
use Rattle.flow_base.specs.way.Kept.{first_of}
use Rattle.variable_sets.specs.SetView.{set_view}
use Rattle.assigned_statements.specs.Statements.{parts_end, parts_faults, groups_end, groups_faults, catches_end, catches_faults}
use Rattle.assignment_rules.specs.View.{ends_view, follow_view}
use Rattle.assigned_statements.proofs.statements.+walk.Given as goal

-- in each, what is still to come leads to the same
abbrev pub invariant-walk_parts-loop-part : goal.invariant-walk_parts-loop-part
invariant-walk_parts-loop-part l = record {
  ends : parts_end (follow_view l.follow) (ends_view l.done) (core_stmts (stmt_views (drop l.part-index l.parts))) ≡ parts_end (follow_view l.follow) (ends_view l.fn.before) (core_stmts (stmt_views l.parts));
  faults : first_of l.found (parts_faults (follow_view l.follow) l.list l.from (ends_view l.done) (core_stmts (stmt_views (drop l.part-index l.parts)))) ≡ first_of l.fn.found (parts_faults (follow_view l.follow) l.list 0 (ends_view l.fn.before) (core_stmts (stmt_views l.parts)));
}

abbrev pub invariant-walk_groups-loop-group : goal.invariant-walk_groups-loop-group
invariant-walk_groups-loop-group l = record {
  ends : groups_end (follow_view l.follow) (set_view l.start) (ends_view l.done) (core_groups (map group_view (drop l.group-index l.groups))) ≡ groups_end (follow_view l.follow) (set_view l.start) (ends_view l.fn.before) (core_groups (map group_view l.groups));
  faults : first_of l.found (groups_faults (follow_view l.follow) (set_view l.start) (ends_view l.done) (core_groups (map group_view (drop l.group-index l.groups)))) ≡ first_of l.fn.found (groups_faults (follow_view l.follow) (set_view l.start) (ends_view l.fn.before) (core_groups (map group_view l.groups)));
}

abbrev pub invariant-walk_catches-loop-catch : goal.invariant-walk_catches-loop-catch
invariant-walk_catches-loop-catch l = record {
  ends : catches_end (follow_view l.follow) (set_view l.start) (ends_view l.done) (core_catches (map catch_view (drop l.catch-index l.catches))) ≡ catches_end (follow_view l.follow) (set_view l.start) (ends_view l.fn.before) (core_catches (map catch_view l.catches));
  faults : first_of l.found (catches_faults (follow_view l.follow) (set_view l.start) (core_catches (map catch_view (drop l.catch-index l.catches)))) ≡ first_of l.fn.found (catches_faults (follow_view l.follow) (set_view l.start) (core_catches (map catch_view l.catches)));
}
