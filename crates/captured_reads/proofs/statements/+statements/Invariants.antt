use Rattle.std.proofs.Common.{◌≡◌, drop, map}
use Rattle.je_core.specs.Core.{core_stmts, core_groups, core_catches}
use Rattle.je_core.specs.View.{program_view, stmt_views, group_view, catch_view}
use Rattle.captured_reads.specs.Walks as the
use Rattle.captured_reads.specs.View.{walk_view}
use Rattle.captured_reads.proofs.statements.+statements.Given as goal

abbrev pub invariant-past_parts-loop-part : goal.invariant-past_parts-loop-part
invariant-past_parts-loop-part l = the.past_parts (program_view l.around.program.now) l.around.locals.now l.home l.end (walk_view l.walk) (core_stmts (stmt_views (drop l.part-index l.parts))) ≡ the.past_parts (program_view l.around.program.now) l.around.locals.now l.home l.end (walk_view l.fn.walk) (core_stmts (stmt_views l.parts))

abbrev pub invariant-past_groups-loop-at : goal.invariant-past_groups-loop-at
invariant-past_groups-loop-at l = the.past_groups (program_view l.around.program.now) l.around.locals.now l.end (walk_view l.walk) (core_groups (map group_view (drop l.at l.groups))) ≡ the.past_groups (program_view l.around.program.now) l.around.locals.now l.end (walk_view l.fn.walk) (core_groups (map group_view l.groups))

abbrev pub invariant-past_catches-loop-catch : goal.invariant-past_catches-loop-catch
invariant-past_catches-loop-catch l = the.past_catches (program_view l.around.program.now) l.around.locals.now (walk_view l.walk) (core_catches (map catch_view (drop l.catch-index l.catches))) ≡ the.past_catches (program_view l.around.program.now) l.around.locals.now (walk_view l.fn.walk) (core_catches (map catch_view l.catches))
