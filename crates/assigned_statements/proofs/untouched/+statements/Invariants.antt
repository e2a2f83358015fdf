use Rattle.std.proofs.Common.{◌≡◌, drop, map}
use Rattle.je_core.specs.Core.{core_stmts, core_groups, core_catches}
use Rattle.je_core.specs.View.{stmt_views, group_view, catch_view}
use Rattle.variable_sets.specs.SetView.{set_view}
use Rattle.assigned_statements.specs.Untouched.{parts_untouched, groups_untouched, catches_untouched}
use Rattle.assigned_statements.proofs.untouched.+statements.Given as goal

abbrev pub invariant-untouched_by_parts-loop-part : goal.invariant-untouched_by_parts-loop-part
invariant-untouched_by_parts-loop-part l = parts_untouched l.home (set_view l.rest) (core_stmts (stmt_views (drop l.part-index l.parts))) ≡ parts_untouched l.home (set_view l.fn.set) (core_stmts (stmt_views l.parts))

abbrev pub invariant-untouched_by_groups-loop-group : goal.invariant-untouched_by_groups-loop-group
invariant-untouched_by_groups-loop-group l = groups_untouched l.home (set_view l.rest) (core_groups (map group_view (drop l.group-index l.groups))) ≡ groups_untouched l.home (set_view l.fn.set) (core_groups (map group_view l.groups))

abbrev pub invariant-untouched_by_catches-loop-catch : goal.invariant-untouched_by_catches-loop-catch
invariant-untouched_by_catches-loop-catch l = catches_untouched l.home (set_view l.rest) (core_catches (map catch_view (drop l.catch-index l.catches))) ≡ catches_untouched l.home (set_view l.fn.set) (core_catches (map catch_view l.catches))
