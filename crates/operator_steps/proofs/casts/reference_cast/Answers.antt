use Rattle.std.proofs.Common.{sym, ap, ◌∙◌}
use Rattle.je_core.specs.Core.{Core}
use Rattle.je_core.specs.View.{view}
use Rattle.name_types.specs.View.{shown}
use Rattle.je_typing.specs.declared.fault.TypeRule.TheVariants.{BadCast}
use Rattle.je_typing.specs.Casts.{reference_cast, reference_cast_node, tests_as}
use Rattle.je_typing.specs.Judged.{Judged, check, gives}
use Rattle.je_typing.specs.Typed.{TypedNode}
use Rattle.je_typing.proofs.Walks.{bind_gives}
use Rattle.source_subtypes.specs.View.{heads_of}
use Rattle.operator_steps.proofs.casts.reference_cast.Goals as goal

pub returns-clause-ok : goal.returns-clause-ok
unfolding reference_cast
returns-clause-ok c =
    let typed : Core → Judged TypedNode = λ n. gives (record { node = n; type = shown c.args.to }) in
    let whole : Core = reference_cast_node (heads_of c.args.heads.now) (shown c.args.to) c.args.type_span c.args.span (view c.args.operand.node) in
    bind_gives (check BadCast c.args.type_span (tests_as (heads_of c.args.heads.now) (shown c.args.to) (shown c.args.operand.ty))) (λ done. typed whole) _
    (ap (check BadCast c.args.type_span) (sym c.in_ok-tests.ensures) ∙ c.in_ok-check.ensures.ok)
    ∙ ap typed (sym c.in_ok-node.ensures)
