use Rattle.std.proofs.Common.{◌≡◌, ◌++◌, map, drop}
use Rattle.std.specs.Prelude.{filter}
use Rattle.je_table.specs.Rows.{class_said, row_said}
use Rattle.declarations.specs.View.{field_shown}
use Rattle.library_classes.specs.Library.{is_field_of}
use Rattle.library_classes.specs.Numbers.{number_in}
use Rattle.library_declarations.specs.Library.{field_declared}
use Rattle.library_declarations.proofs.members.fields.Given as goal

abbrev pub invariant-loop-member : goal.invariant-loop-member
invariant-loop-member l =
    map field_shown l.fields.items ++ map (field_declared (number_in l.names) l.class.0) (filter (is_field_of (class_said l.row)) (map row_said (drop l.member-index l.member-items))) ≡
    map (field_declared (number_in l.names) l.class.0) (filter (is_field_of (class_said l.row)) (map row_said l.member-items))
