use Rattle.std.proofs.Common.{◌≡◌, drop, map}
use Rattle.je_core.specs.Core.{core_stmts, core_groups, core_catches}
use Rattle.je_core.specs.View.{stmt_views, group_view, catch_view, program_view}
use Rattle.plain_programs.specs.Nodes.{throughout_all, throughout_groups, throughout_catches}
use Rattle.plain_programs.specs.way.Deciding.{is_plain_form, is_plain_node}
use Rattle.plain_programs.proofs.statements.+statement.Given as goal

abbrev pub invariant-all_are_plain-loop-statement : goal.invariant-all_are_plain-loop-statement
invariant-all_are_plain-loop-statement l = throughout_all (is_plain_node (program_view l.program) l.starts) is_plain_form (core_stmts (stmt_views (drop l.statement-index l.list)))
    ≡ throughout_all (is_plain_node (program_view l.program) l.starts) is_plain_form (core_stmts (stmt_views l.list))

abbrev pub invariant-groups_are_plain-loop-group : goal.invariant-groups_are_plain-loop-group
invariant-groups_are_plain-loop-group l = throughout_groups (is_plain_node (program_view l.program) l.starts) is_plain_form (core_groups (map group_view (drop l.group-index l.groups)))
    ≡ throughout_groups (is_plain_node (program_view l.program) l.starts) is_plain_form (core_groups (map group_view l.groups))

abbrev pub invariant-catches_are_plain-loop-catch : goal.invariant-catches_are_plain-loop-catch
invariant-catches_are_plain-loop-catch l = throughout_catches (is_plain_node (program_view l.program) l.starts) is_plain_form (core_catches (map catch_view (drop l.catch-index l.catches)))
    ≡ throughout_catches (is_plain_node (program_view l.program) l.starts) is_plain_form (core_catches (map catch_view l.catches))
