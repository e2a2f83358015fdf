use Rattle.std.proofs.Common.{◌≡◌, ◌++◌, map, drop}
use Rattle.std.specs.Prelude.{filter}
use Rattle.je_core.specs.View.{method_view}
use Rattle.je_table.specs.Rows.{class_said, row_said}
use Rattle.library_classes.specs.Library.{method_due, is_method_of}
use Rattle.library_classes.specs.Numbers.{number_in}
use Rattle.library_classes.proofs.methods.methods.Given as goal

abbrev pub invariant-loop-member : goal.invariant-loop-member
invariant-loop-member l =
    map method_view l.methods.items ++ map (method_due (number_in l.names) (class_said l.row)) (filter (is_method_of (class_said l.row)) (map row_said (drop l.member-index l.member-items))) ≡
    map (method_due (number_in l.names) (class_said l.row)) (filter (is_method_of (class_said l.row)) (map row_said l.member-items))
