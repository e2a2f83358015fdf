use Rattle.std.proofs.Common.{◌≡◌, drop, map}
use Rattle.je_core.specs.Core.{core_stmts, core_groups, core_catches}
use Rattle.je_core.specs.View.{stmt_views, group_view, catch_view}
use Rattle.rule_breaks.specs.way.Found.{followed_by}
use Rattle.super_equals.specs.Statements.{calls_in_parts, calls_in_groups, calls_in_catches}
use Rattle.super_equals.proofs.statements.+walk.Given as goal

-- in each, what is still to come leads to the same
abbrev pub invariant-walk_parts-loop-part : goal.invariant-walk_parts-loop-part
invariant-walk_parts-loop-part l = followed_by l.found (calls_in_parts (core_stmts (stmt_views (drop l.part-index l.parts)))) ≡ followed_by l.fn.found (calls_in_parts (core_stmts (stmt_views l.parts)))

abbrev pub invariant-walk_groups-loop-group : goal.invariant-walk_groups-loop-group
invariant-walk_groups-loop-group l = followed_by l.found (calls_in_groups (core_groups (map group_view (drop l.group-index l.groups)))) ≡ followed_by l.fn.found (calls_in_groups (core_groups (map group_view l.groups)))

abbrev pub invariant-walk_catches-loop-catch : goal.invariant-walk_catches-loop-catch
invariant-walk_catches-loop-catch l = followed_by l.found (calls_in_catches (core_catches (map catch_view (drop l.catch-index l.catches)))) ≡ followed_by l.fn.found (calls_in_catches (core_catches (map catch_view l.catches)))
