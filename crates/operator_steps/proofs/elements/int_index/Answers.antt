use Rattle.std.proofs.Common.{sym, ap, ◌∙◌}
use Rattle.je_core.specs.declared.types.Base.TheVariants as base
use Rattle.je_core.specs.View.{view}
use Rattle.name_types.specs.View.{shown}
use Rattle.je_typing.specs.declared.fault.TypeRule.TheVariants.{BadIndex}
use Rattle.je_typing.specs.Arrays.{int_index, is_int_if}
use Rattle.je_typing.specs.Conversions.{converted}
use Rattle.je_typing.specs.Judged.{check, gives}
use Rattle.je_typing.specs.Promotion.{promoted}
use Rattle.je_typing.proofs.Walks.{bind_gives}
use Rattle.operator_steps.proofs.elements.int_index.Goals as goal

pub returns-clause-ok : goal.returns-clause-ok
unfolding int_index
returns-clause-ok c =
    bind_gives (check BadIndex c.args.span (is_int_if (promoted (shown c.args.index.ty)))) (λ done. gives (converted base.Int (view c.args.index.node))) _
    (ap (check BadIndex c.args.span) (sym (c.is_int_if.ensures ∙ ap is_int_if c.promoted.ensures)) ∙ c.in_ok-check.ensures.ok)
    ∙ ap gives (sym c.in_ok-node.ensures)
