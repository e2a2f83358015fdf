use Rattle.std.proofs.Common.{◌≡◌, ◌++◌, map, drop}
use Rattle.je_table.specs.Rows.{class_said}
use Rattle.declarations.specs.View.{class_shown}
use Rattle.library_classes.specs.Numbers.{number_in}
use Rattle.library_declarations.specs.Library.{classes_declared}
use Rattle.library_declarations.proofs.classes.library_declarations.Given as goal

abbrev pub invariant-loop-at : goal.invariant-loop-at
invariant-loop-at l =
    map class_shown l.declared.items ++ classes_declared (number_in l.names) l.at (map class_said (drop l.at l.row-items)) ≡ classes_declared (number_in l.names) 0 (map class_said l.row-items)
