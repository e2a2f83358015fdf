use Rattle.std.proofs.Common.{◌≡◌, ◌-◌, length}
use Rattle.je_core.specs.View.{program_view}
use Rattle.je_classes.specs.Hierarchy.{supers_of}
use Rattle.class_lookup.specs.way.Walk.{reached_from, reached_by}
use Rattle.class_lookup.proofs.walk.classes_above.Given as goal

abbrev pub invariant-loop-at : goal.invariant-loop-at
invariant-loop-at l =
    reached_from (supers_of (program_view l.program)) (length (program_view l.program).classes) (length (program_view l.program).classes - l.at) l.at l.reached.items ≡
    reached_by (supers_of (program_view l.program)) (length (program_view l.program).classes) l.fn.class
