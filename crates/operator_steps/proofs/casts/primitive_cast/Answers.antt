use Rattle.std.proofs.Common.{sym, ap, ◌∙◌}
use Rattle.je_core.specs.Core.{Core}
use Rattle.je_core.specs.View.{view}
use Rattle.name_types.specs.View.{shown}
use Rattle.je_typing.specs.declared.fault.TypeRule.TheVariants.{BadCast}
use Rattle.je_typing.specs.Casts.{casts_to, primitive_cast, primitive_cast_node}
use Rattle.je_typing.specs.Judged.{check, gives}
use Rattle.je_typing.specs.Operators.{of_base}
use Rattle.je_typing.proofs.Walks.{bind_gives}
use Rattle.operator_steps.proofs.casts.primitive_cast.Goals as goal

pub returns-clause-ok : goal.returns-clause-ok
unfolding primitive_cast
returns-clause-ok c =
    let whole : Core = primitive_cast_node c.args.base c.args.type_span c.args.span (view c.args.operand.node) in
    bind_gives (check BadCast c.args.type_span (casts_to c.args.base (shown c.args.operand.ty))) (λ done. gives (of_base c.args.base whole)) _
    (ap (check BadCast c.args.type_span) (sym c.casts_to.ensures) ∙ c.in_ok-check.ensures.ok)
    ∙ ap (λ (n : Core). gives (of_base c.args.base n)) (sym c.in_ok-node.ensures)
    ∙ ap gives (sym c.of_base.ensures)
