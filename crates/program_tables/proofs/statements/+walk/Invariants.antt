use Rattle.std.proofs.Common.{◌≡◌, ◌++◌, drop, map}
use Rattle.class_typing.specs.Texts.{catch_texts, group_texts, part_texts}
use Rattle.je_core.specs.Core.{core_catches, core_groups, core_stmts}
use Rattle.je_core.specs.View.{catch_view, group_view, stmt_views}
use Rattle.program_tables.specs.way.Seen.{found_seen}
use Rattle.program_tables.proofs.statements.+walk.Given as goal

-- in each, what was found and what is still to come
abbrev pub invariant-walk_parts-loop-part : goal.invariant-walk_parts-loop-part
invariant-walk_parts-loop-part l =
    map found_seen l.found.items ++ part_texts (core_stmts (stmt_views (drop l.part-index l.parts)))
    ≡ map found_seen l.fn.found.items ++ part_texts (core_stmts (stmt_views l.parts))

abbrev pub invariant-walk_groups-loop-group : goal.invariant-walk_groups-loop-group
invariant-walk_groups-loop-group l =
    map found_seen l.found.items ++ group_texts (core_groups (map group_view (drop l.group-index l.groups)))
    ≡ map found_seen l.fn.found.items ++ group_texts (core_groups (map group_view l.groups))

abbrev pub invariant-walk_catches-loop-catch : goal.invariant-walk_catches-loop-catch
invariant-walk_catches-loop-catch l =
    map found_seen l.found.items ++ catch_texts (core_catches (map catch_view (drop l.catch-index l.catches)))
    ≡ map found_seen l.fn.found.items ++ catch_texts (core_catches (map catch_view l.catches))
