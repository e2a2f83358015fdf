use Rattle.std.proofs.Common.{◌≡◌, drop, map}
use Rattle.je_core.specs.Core.{core_stmts, core_groups, core_catches}
use Rattle.je_core.specs.View.{stmt_views, group_view, catch_view}
use Rattle.variable_sets.specs.SetView.{set_view}
use Rattle.assigned_statements.specs.Statements.{parts_end, groups_end, catches_end}
use Rattle.assignment_rules.specs.View.{ends_view, follow_view}
use Rattle.assigned_statements.proofs.pairs.+pairs.Given as goal

-- in each, what is still to come leads to the same
abbrev pub invariant-pair_parts-loop-part : goal.invariant-pair_parts-loop-part
invariant-pair_parts-loop-part l = record {
  first : parts_end (follow_view l.follow) (ends_view l.done.first) (core_stmts (stmt_views (drop l.part-index l.parts))) ≡ parts_end (follow_view l.follow) (ends_view l.fn.before.first) (core_stmts (stmt_views l.parts));
  second : parts_end (follow_view l.follow) (ends_view l.done.second) (core_stmts (stmt_views (drop l.part-index l.parts))) ≡ parts_end (follow_view l.follow) (ends_view l.fn.before.second) (core_stmts (stmt_views l.parts));
}

abbrev pub invariant-pair_groups-loop-group : goal.invariant-pair_groups-loop-group
invariant-pair_groups-loop-group l = record {
  first : groups_end (follow_view l.follow) (set_view l.first_start) (ends_view l.done.first) (core_groups (map group_view (drop l.group-index l.groups))) ≡ groups_end (follow_view l.follow) (set_view l.first_start) (ends_view l.fn.before.first) (core_groups (map group_view l.groups));
  second : groups_end (follow_view l.follow) (set_view l.second_start) (ends_view l.done.second) (core_groups (map group_view (drop l.group-index l.groups))) ≡ groups_end (follow_view l.follow) (set_view l.second_start) (ends_view l.fn.before.second) (core_groups (map group_view l.groups));
}

abbrev pub invariant-pair_catches-loop-catch : goal.invariant-pair_catches-loop-catch
invariant-pair_catches-loop-catch l = record {
  first : catches_end (follow_view l.follow) (set_view l.starts.first) (ends_view l.done.first) (core_catches (map catch_view (drop l.catch-index l.catches))) ≡ catches_end (follow_view l.follow) (set_view l.starts.first) (ends_view l.fn.before.first) (core_catches (map catch_view l.catches));
  second : catches_end (follow_view l.follow) (set_view l.starts.second) (ends_view l.done.second) (core_catches (map catch_view (drop l.catch-index l.catches))) ≡ catches_end (follow_view l.follow) (set_view l.starts.second) (ends_view l.fn.before.second) (core_catches (map catch_view l.catches));
}
