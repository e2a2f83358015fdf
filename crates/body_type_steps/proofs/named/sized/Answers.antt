use Rattle.std.proofs.Common.{◌≤◌, sym, ap, ◌∙◌, arith}
use Rattle.je_scopes.specs.SourceTypes.{SourceType}
use Rattle.header_typing.specs.WrittenTypes.{is_in_limit}
use Rattle.je_typing.specs.declared.fault.TypeRule.TheVariants.{BadArray}
use Rattle.je_typing.specs.Judged.{check, gives}
use Rattle.je_typing.proofs.Walks.{bind_gives}
use Rattle.name_types.specs.View.{base_shown}
use Rattle.name_types.proofs.Views.{rolled_is}
use Rattle.body_type_steps.proofs.Bases.{held}
use Rattle.body_type_steps.proofs.named.sized.Goals as goal

pub overflow_cast-result : goal.overflow_cast-result
overflow_cast-result c =
    let few : c.args.dims ≤ 255 = held BadArray c.args.span c.is_in_limit.result c.in_ok-check.field-0 c.args.dims c.is_in_limit.ensures c.in_ok-check.ensures.ok in
    omega (arith, few)

pub returns-clause-ok : goal.returns-clause-ok
returns-clause-ok c =
    bind_gives (check BadArray c.args.span (is_in_limit c.args.dims)) (λ (done : Unit {0}). gives (base_shown c.args.base c.args.dims)) c.in_ok-check.field-0
    (ap (check BadArray c.args.span) (sym c.is_in_limit.ensures) ∙ c.in_ok-check.ensures.ok)
    ∙ ap (λ (t : SourceType). gives t) (sym (rolled_is _))
