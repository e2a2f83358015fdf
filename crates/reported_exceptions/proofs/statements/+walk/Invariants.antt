use Rattle.std.proofs.Common.{◌≡◌, drop, map}
use Rattle.je_core.specs.Core.{core_stmts, core_groups, core_catches}
use Rattle.je_core.specs.View.{stmt_views, group_view, catch_view, program_view}
use Rattle.flow_base.specs.way.Kept.{first_of}
use Rattle.reported_exceptions.specs.Statements.{parts_throw, groups_throw, catches_throw, parts_faults, groups_faults, catches_faults}
use Rattle.reported_exceptions.specs.Throws.{out_behind}
use Rattle.reported_exceptions.specs.View.{rows}
use Rattle.reported_exceptions.proofs.statements.+walk.Given as goal

-- in each, what is still to come leads to the same
abbrev pub invariant-walk_parts-loop-part : goal.invariant-walk_parts-loop-part
invariant-walk_parts-loop-part l = record {
  throws : out_behind (program_view l.program) l.thrown.items (parts_throw (program_view l.program) (rows l.makings) (core_stmts (stmt_views (drop l.part-index l.parts)))) ≡ out_behind (program_view l.program) l.fn.thrown.items (parts_throw (program_view l.program) (rows l.makings) (core_stmts (stmt_views l.parts)));
  faults : first_of l.found (parts_faults (program_view l.program) (rows l.makings) (core_stmts (stmt_views (drop l.part-index l.parts)))) ≡ first_of l.fn.found (parts_faults (program_view l.program) (rows l.makings) (core_stmts (stmt_views l.parts)));
}

abbrev pub invariant-walk_groups-loop-group : goal.invariant-walk_groups-loop-group
invariant-walk_groups-loop-group l = record {
  throws : out_behind (program_view l.program) l.thrown.items (groups_throw (program_view l.program) (rows l.makings) (core_groups (map group_view (drop l.group-index l.groups)))) ≡ out_behind (program_view l.program) l.fn.thrown.items (groups_throw (program_view l.program) (rows l.makings) (core_groups (map group_view l.groups)));
  faults : first_of l.found (groups_faults (program_view l.program) (rows l.makings) (core_groups (map group_view (drop l.group-index l.groups)))) ≡ first_of l.fn.found (groups_faults (program_view l.program) (rows l.makings) (core_groups (map group_view l.groups)));
}

abbrev pub invariant-walk_catches-loop-catch : goal.invariant-walk_catches-loop-catch
invariant-walk_catches-loop-catch l = record {
  throws : out_behind (program_view l.program) l.thrown.items (catches_throw (program_view l.program) (rows l.makings) (core_catches (map catch_view (drop l.catch-index l.catches)))) ≡ out_behind (program_view l.program) l.fn.thrown.items (catches_throw (program_view l.program) (rows l.makings) (core_catches (map catch_view l.catches)));
  faults : first_of l.found (catches_faults (program_view l.program) (rows l.makings) (core_catches (map catch_view (drop l.catch-index l.catches)))) ≡ first_of l.fn.found (catches_faults (program_view l.program) (rows l.makings) (core_catches (map catch_view l.catches)));
}
