use Rattle.std.proofs.Common.{◌≡◌, ◌++◌, map, drop}
use Rattle.je_core.specs.View.{class_view}
use Rattle.je_table.specs.Rows.{class_said}
use Rattle.library_classes.specs.Library.{classes_due}
use Rattle.library_classes.specs.Numbers.{number_in}
use Rattle.library_classes.proofs.classes.library_classes.Given as goal

abbrev pub invariant-loop-at : goal.invariant-loop-at
invariant-loop-at l =
    map class_view l.made.items ++ classes_due (number_in l.names) l.at (map class_said (drop l.at l.row-items)) ≡ classes_due (number_in l.names) 0 (map class_said l.row-items)
