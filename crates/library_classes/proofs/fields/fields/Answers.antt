use Rattle.std.proofs.Common.{◌∙◌, ◌++◌, ap, arith, map}
use Rattle.je_core.specs.View.{field_view}
use Rattle.je_table.specs.Rows.{class_said}
use Rattle.library_classes.specs.Library.{constant_field, hidden_fields, is_field_of}
use Rattle.library_classes.specs.Numbers.{number_in}
use Rattle.library_classes.proofs.Turns.{all_made}
use Rattle.library_classes.proofs.fields.fields.Goals as goal

pub returns : goal.returns
returns c =
    let number = number_in c.args.names.now in
    let row = class_said c.args.row.now in
    c.in_ok-add_hidden.ensures ∙ ap (λ made. made ++ hidden_fields number row)
    (all_made (constant_field number row) (is_field_of row) c.member_rows-member-items.result.now c.loop-member.member-index
    (map field_view c.loop-member.fields.items) (omega (arith, c.loop-member-test.false)) c.loop-member.invariant c.member_rows-member-items.ensures.rows)
