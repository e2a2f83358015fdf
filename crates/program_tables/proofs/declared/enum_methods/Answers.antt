use Rattle.std.proofs.Common.{[], true, false, ap, ◌∙◌}
use Rattle.std.specs.Prelude.{codes}
use Rattle.je_core.specs.declared.program.Access.TheVariants as access
use Rattle.je_scopes.specs.SourceTypes.{SourceType}
use Rattle.declarations.specs.View.{method_shown}
use Rattle.library_classes.specs.Numbers.{number_in}
use Rattle.class_typing.specs.Enums.{declared, flags}
use Rattle.program_tables.proofs.Pushed.{five_pushed}
use Rattle.program_tables.proofs.declared.enum_methods.Goals as goal

pub returns : goal.returns
returns c =
    five_pushed method_shown c.new-methods.ensures.items c.in_ok-push.ensures.items c.in_ok-push-2.ensures.items
    c.in_ok-push-3.ensures.items c.in_ok-push-4.ensures.items c.in_ok-push-5.ensures.items
    (c.declared-new.ensures
    ∙ (λ i. declared (number_in c.args.names.now) (codes "new") true (c.in_ok-parameters.ensures i) (c.plain.ensures i) (c.flags-flags.ensures i)))
    (c.method.ensures
    ∙ ap (λ (t : SourceType). declared (number_in c.args.names.now) (codes "name") false [] t (flags access.Public false)) c.string_ty.ensures)
    (c.method-2.ensures
    ∙ ap (λ (t : SourceType). declared (number_in c.args.names.now) (codes "toString") false [] t (flags access.Public false)) c.string_ty-2.ensures)
    (c.method-3.ensures
    ∙ ap (λ (t : SourceType). declared (number_in c.args.names.now) (codes "ordinal") false [] t (flags access.Public false)) c.plain-2.ensures)
    (c.method-4.ensures
    ∙ ap (λ (t : SourceType). declared (number_in c.args.names.now) (codes "values") false [] t (flags access.Public true)) c.plain-3.ensures)
