use Rattle.std.proofs.Common.{◌≡◌, ◌-◌, length}
use Rattle.je_core.specs.View.{program_view}
use Rattle.class_lookup.specs.way.Walk.{reached_from, reached_by}
use Rattle.method_lookup.specs.way.Ways.{next_method}
use Rattle.method_lookup.proofs.ways.reached.Given as goal

abbrev pub invariant-loop-at : goal.invariant-loop-at
invariant-loop-at l = reached_from (next_method (program_view l.program) l.sought.name l.sought.params.now l.sought.is_of_object) (length (program_view l.program).classes) (length (program_view l.program).classes - l.at) l.at l.classes.items ≡ reached_by (next_method (program_view l.program) l.sought.name l.sought.params.now l.sought.is_of_object) (length (program_view l.program).classes) l.fn.own
