use Rattle.std.proofs.Common.{List, ◌++◌, length, map, replicate, append_assoc, sym, ap, ◌∙◌}
use Rattle.je_ast.specs.declared.name.Identifier.{Identifier}
use Rattle.je_scopes.specs.Headers.{constants_in, members_in}
use Rattle.name_walk.specs.View.{written_view}
use Rattle.class_typing.specs.ConstantFields.{constant_value, member_values, unwritten}
use Rattle.field_values.specs.declared.values.FieldValue.{FieldValue}
use Rattle.field_values.specs.Values.{value_seen}
use Rattle.field_values.proofs.Written.{all_unwritten}
use Rattle.field_values.proofs.values.field_values.Goals as goal

pub returns : goal.returns
returns c =
    let hidden = c.in_ok-add_unwritten.ensures ∙ ap (λ (vs : List FieldValue). map value_seen vs ++ replicate c.args.hidden unwritten) c.new-values.ensures.items in
    let constants = ap (λ (ids : List Identifier). replicate (length ids) unwritten) c.constants_of.ensures
    ∙ sym (all_unwritten (constants_in (written_view c.args.written))) in
    c.in_ok-add_members.ensures
    ∙ (λ i. c.in_ok-add_unwritten-2.ensures i ++ member_values (c.members_of.ensures i))
    ∙ (λ i. (hidden i ++ constants i) ++ member_values (members_in (written_view c.args.written)))
    ∙ append_assoc (replicate c.args.hidden unwritten) (map constant_value (constants_in (written_view c.args.written))) (member_values (members_in (written_view c.args.written)))
