use Rattle.std.proofs.Common.{◌≡◌, ◌-◌, length}
use Rattle.je_core.specs.View.{program_view}
use Rattle.class_lookup.specs.way.Walk.{reached_from, reached_by}
use Rattle.number_maps.specs.Maps.{family}
use Rattle.class_tables.specs.way.Above.{next_beyond}
use Rattle.class_tables.proofs.subclasses.reached.Given as goal

abbrev pub invariant-loop-at : goal.invariant-loop-at
invariant-loop-at l = reached_from (next_beyond (program_view l.program) (family l.maps) l.base) (length (program_view l.program).classes) (length (program_view l.program).classes - l.at) l.at l.classes.items
    ≡ reached_by (next_beyond (program_view l.program) (family l.maps) l.base) (length (program_view l.program).classes) l.fn.own
