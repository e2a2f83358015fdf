use Rattle.std.proofs.Common.{◌≡◌, drop, map}
use Rattle.je_core.specs.Core.{core_stmts, core_groups, core_catches}
use Rattle.je_core.specs.View.{stmt_views, group_view, catch_view, program_view}
use Rattle.je_fitting.specs.way.DecidingStatements.{are_statements_fit, are_groups_fit, are_catches_fit}
use Rattle.fit_statements.proofs.statements.+statement.Given as goal

abbrev pub invariant-statements_fit-loop-statement : goal.invariant-statements_fit-loop-statement
invariant-statements_fit-loop-statement l =
    are_statements_fit (program_view l.program) l.body l.targets (core_stmts (stmt_views (drop l.statement-index l.list))) ≡ are_statements_fit (program_view l.program) l.body l.targets (core_stmts (stmt_views l.list))

abbrev pub invariant-groups_fit-loop-group : goal.invariant-groups_fit-loop-group
invariant-groups_fit-loop-group l =
    are_groups_fit (program_view l.program) l.body l.targets (core_groups (map group_view (drop l.group-index l.groups))) ≡ are_groups_fit (program_view l.program) l.body l.targets (core_groups (map group_view l.groups))

abbrev pub invariant-catches_fit-loop-catch : goal.invariant-catches_fit-loop-catch
invariant-catches_fit-loop-catch l =
    are_catches_fit (program_view l.program) l.body l.targets (core_catches (map catch_view (drop l.catch-index l.catches))) ≡ are_catches_fit (program_view l.program) l.body l.targets (core_catches (map catch_view l.catches))
