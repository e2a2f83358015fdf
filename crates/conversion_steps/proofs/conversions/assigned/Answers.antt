use Rattle.std.proofs.Common.{Option, sym, ap, ◌∙◌}
use Rattle.je_core.specs.declared.types.Base.{Base}
use Rattle.je_core.specs.View.{view}
use Rattle.name_types.specs.View.{shown}
use Rattle.je_typing.specs.declared.fault.TypeRule.TheVariants.{NotConvertible}
use Rattle.je_typing.specs.Conversions.{assigned, converted_if, is_assignable}
use Rattle.je_typing.specs.Judged.{check, gives}
use Rattle.je_typing.specs.Typed.{primitive}
use Rattle.je_typing.proofs.Walks.{bind_gives}
use Rattle.source_subtypes.specs.View.{heads_of}
use Rattle.typed_nodes.specs.Seen.{seen}
use Rattle.conversion_steps.proofs.conversions.assigned.Goals as goal

pub returns-clause-ok : goal.returns-clause-ok
unfolding assigned
returns-clause-ok c =
    bind_gives (check NotConvertible c.args.span (is_assignable (heads_of c.args.heads.now) (seen c.args.from) (shown c.args.to.now)))
    (λ done. gives (converted_if (primitive (shown c.args.to.now)) (view c.args.from.node))) _
    (ap (check NotConvertible c.args.span) (sym c.in_ok-takes.ensures) ∙ c.in_ok-check.ensures.ok)
    ∙ ap (λ (b : Option Base). gives (converted_if b (view c.args.from.node))) (sym c.primitive.ensures)
    ∙ ap gives (sym c.in_ok-value.ensures)
