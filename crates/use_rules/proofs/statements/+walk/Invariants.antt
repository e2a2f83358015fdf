use Rattle.std.proofs.Common.{◌≡◌, drop, map}
use Rattle.je_core.specs.Core.{core_stmts, core_groups, core_catches}
use Rattle.je_core.specs.View.{stmt_views, group_view, catch_view}
use Rattle.je_types.specs.Views.{program_of}
use Rattle.rule_breaks.specs.way.Found.{followed_by}
use Rattle.taming_db.specs.View.{rows}
use Rattle.use_rules.specs.Statements.{parts_breaks, groups_breaks, catches_breaks}
use Rattle.use_rules.proofs.statements.+walk.Given as goal

-- in each, what is still to come leads to the same
abbrev pub invariant-walk_parts-loop-part : goal.invariant-walk_parts-loop-part
invariant-walk_parts-loop-part l = followed_by l.found (parts_breaks (program_of l.typed) (rows l.taming) (core_stmts (stmt_views (drop l.part-index l.parts)))) ≡ followed_by l.fn.found (parts_breaks (program_of l.typed) (rows l.taming) (core_stmts (stmt_views l.parts)))

abbrev pub invariant-walk_groups-loop-group : goal.invariant-walk_groups-loop-group
invariant-walk_groups-loop-group l = followed_by l.found (groups_breaks (program_of l.typed) (rows l.taming) (core_groups (map group_view (drop l.group-index l.groups)))) ≡ followed_by l.fn.found (groups_breaks (program_of l.typed) (rows l.taming) (core_groups (map group_view l.groups)))

abbrev pub invariant-walk_catches-loop-catch : goal.invariant-walk_catches-loop-catch
invariant-walk_catches-loop-catch l = followed_by l.found (catches_breaks (program_of l.typed) (rows l.taming) (core_catches (map catch_view (drop l.catch-index l.catches)))) ≡ followed_by l.fn.found (catches_breaks (program_of l.typed) (rows l.taming) (core_catches (map catch_view l.catches)))
