use Rattle.std.proofs.Common.{arith, map}
use Rattle.je_core.specs.View.{method_view}
use Rattle.je_table.specs.Rows.{class_said}
use Rattle.library_classes.specs.Library.{method_due, is_method_of}
use Rattle.library_classes.specs.Numbers.{number_in}
use Rattle.library_classes.proofs.Turns.{all_made}
use Rattle.library_classes.proofs.methods.methods.Goals as goal

pub returns : goal.returns
returns c =
    let row = class_said c.args.row.now in
    all_made (method_due (number_in c.args.names.now) row) (is_method_of row) c.member_rows-member-items.result.now c.loop-member.member-index
    (map method_view c.loop-member.methods.items) (omega (arith, c.loop-member-test.false)) c.loop-member.invariant c.member_rows-member-items.ensures.rows
