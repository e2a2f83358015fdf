use Rattle.std.proofs.Common.{sym, ap, ◌∙◌}
use Rattle.je_core.specs.declared.types.Base.TheVariants as base
use Rattle.je_core.specs.Core.{Core, InstanceOf, node}
use Rattle.je_core.specs.View.{view}
use Rattle.je_fitting.specs.Types.{of}
use Rattle.name_types.specs.View.{shown}
use Rattle.je_typing.specs.declared.fault.TypeRule.TheVariants.{BadInstanceOf}
use Rattle.je_typing.specs.Casts.{instance_of, tests_as}
use Rattle.je_typing.specs.Judged.{check, gives}
use Rattle.je_typing.specs.Operators.{of_base}
use Rattle.je_typing.proofs.Walks.{bind_gives}
use Rattle.source_types.specs.Erasure.{erased}
use Rattle.source_subtypes.specs.View.{heads_of}
use Rattle.operator_steps.proofs.casts.instance_of.Goals as goal

pub returns-clause-ok : goal.returns-clause-ok
unfolding instance_of
returns-clause-ok c =
    let hs = heads_of c.args.heads.now in
    let whole : Core = node (InstanceOf (view c.args.operand.node) (erased hs (shown c.args.to.now))) (of base.Bool) c.args.span c.args.at in
    bind_gives (check BadInstanceOf c.args.type_span (tests_as hs (shown c.args.to.now) (shown c.args.operand.ty))) (λ done. gives (of_base base.Bool whole)) _
    (ap (check BadInstanceOf c.args.type_span) (sym c.in_ok-tests.ensures) ∙ c.in_ok-check.ensures.ok)
    ∙ ap (λ (n : Core). gives (of_base base.Bool n)) (sym c.in_ok-node.ensures)
    ∙ ap gives (sym c.of_base.ensures)
