use Rattle.std.proofs.Common.{◌≡◌, ◌-◌, length}
use Rattle.je_core.specs.View.{program_view}
use Rattle.class_lookup.specs.way.Walk.{reached_from, reached_by}
use Rattle.member_lookup.specs.way.Fields.{next_field}
use Rattle.member_lookup.proofs.fields.owners.Given as goal

abbrev pub invariant-loop-at : goal.invariant-loop-at
invariant-loop-at l =
    reached_from (next_field (program_view l.program) l.name) (length (program_view l.program).classes) (length (program_view l.program).classes - l.at) l.at l.reached.items ≡
    reached_by (next_field (program_view l.program) l.name) (length (program_view l.program).classes) l.fn.class
