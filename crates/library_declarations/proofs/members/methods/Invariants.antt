use Rattle.std.proofs.Common.{◌≡◌, ◌++◌, map, drop}
use Rattle.std.specs.Prelude.{filter}
use Rattle.je_table.specs.Rows.{class_said, row_said}
use Rattle.declarations.specs.View.{method_shown}
use Rattle.library_classes.specs.Library.{is_method_of}
use Rattle.library_classes.specs.Numbers.{number_in}
use Rattle.library_declarations.specs.Library.{method_declared}
use Rattle.library_declarations.proofs.members.methods.Given as goal

abbrev pub invariant-loop-member : goal.invariant-loop-member
invariant-loop-member l =
    map method_shown l.methods.items ++ map (method_declared (number_in l.names) (class_said l.row) l.class.0) (filter (is_method_of (class_said l.row)) (map row_said (drop l.member-index l.member-items))) ≡
    map (method_declared (number_in l.names) (class_said l.row) l.class.0) (filter (is_method_of (class_said l.row)) (map row_said l.member-items))
