use Rattle.std.proofs.Common.{[], true, false, ap, ◌∙◌}
use Rattle.std.specs.Prelude.{codes}
use Rattle.je_core.specs.declared.program.Access.TheVariants as access
use Rattle.je_core.specs.declared.types.Ty.{Ty}
use Rattle.je_core.specs.View.{method_view}
use Rattle.class_typing.specs.Enums.{flags, name_place, ordinal_place}
use Rattle.program_tables.specs.way.Words.{field_of, method_of, returning_of}
use Rattle.program_tables.proofs.Pushed.{five_pushed}
use Rattle.program_tables.proofs.code.enum_code.Goals as goal

pub returns : goal.returns
returns c =
    let name = c.in_ok-name.ensures ∙ ap (λ (t : Ty). returning_of c.args.of (field_of c.args.of name_place t)) c.string.ensures in
    let text = c.in_ok-text.ensures ∙ ap (λ (t : Ty). returning_of c.args.of (field_of c.args.of name_place t)) c.string-2.ensures in
    let ordinal = c.in_ok-ordinal.ensures ∙ ap (λ (t : Ty). returning_of c.args.of (field_of c.args.of ordinal_place t)) c.int.ensures in
    five_pushed method_view c.new-methods.ensures.items c.in_ok-push.ensures.items c.in_ok-push-2.ensures.items
    c.in_ok-push-3.ensures.items c.in_ok-push-4.ensures.items c.in_ok-push-5.ensures.items c.in_ok-new.ensures
    (c.in_ok-plain_method.ensures
    ∙ (λ i. method_of c.args.of (codes "name") [] (c.string-3.ensures i) (flags access.Public false) [] (name i)))
    (c.in_ok-plain_method-2.ensures
    ∙ (λ i. method_of c.args.of (codes "toString") [] (c.string-4.ensures i) (flags access.Public false) [] (text i)))
    (c.in_ok-plain_method-3.ensures
    ∙ (λ i. method_of c.args.of (codes "ordinal") [] (c.int-2.ensures i) (flags access.Public false) [] (ordinal i)))
    (c.in_ok-plain_method-4.ensures
    ∙ (λ i. method_of c.args.of (codes "values") [] (c.array_ty.ensures i) (flags access.Public true) [] (c.in_ok-values.ensures i)))
