use Rattle.std.proofs.Common.{arith, map}
use Rattle.je_table.specs.Rows.{class_said}
use Rattle.declarations.specs.View.{field_shown}
use Rattle.library_classes.specs.Library.{is_field_of}
use Rattle.library_classes.specs.Numbers.{number_in}
use Rattle.library_classes.proofs.Turns.{all_made}
use Rattle.library_declarations.specs.Library.{field_declared}
use Rattle.library_declarations.proofs.members.fields.Goals as goal

pub returns : goal.returns
returns c =
    let row = class_said c.args.row.now in
    all_made (field_declared (number_in c.args.names.now) c.args.class.0) (is_field_of row) c.member_rows-member-items.result.now c.loop-member.member-index
    (map field_shown c.loop-member.fields.items) (omega (arith, c.loop-member-test.false)) c.loop-member.invariant c.member_rows-member-items.ensures.rows
