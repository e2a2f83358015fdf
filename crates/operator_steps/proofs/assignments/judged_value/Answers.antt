use Rattle.std.proofs.Common.{sym, ap, ◌∙◌}
use Rattle.je_core.specs.Core.{Core}
use Rattle.je_core.specs.View.{view}
use Rattle.name_types.specs.View.{shown}
use Rattle.je_typing.specs.declared.fault.TypeRule.TheVariants.{BadTarget}
use Rattle.je_typing.specs.Assignments.{place}
use Rattle.je_typing.specs.Conversions.{assigned}
use Rattle.je_typing.specs.Judged.{bind, check, gives}
use Rattle.je_typing.proofs.Walks.{bind_gives}
use Rattle.source_subtypes.specs.View.{heads_of}
use Rattle.typed_nodes.specs.Seen.{seen}
use Rattle.operator_steps.specs.way.Judging.{judged_value}
use Rattle.operator_steps.proofs.assignments.judged_value.Goals as goal

pub returns-clause-ok : goal.returns-clause-ok
unfolding judged_value place
returns-clause-ok c =
    bind_gives (assigned (heads_of c.args.heads.now) (shown c.args.left.now.ty) c.args.right_span (seen c.args.right))
    (λ (v : Core). bind (place c.args.left_span (seen c.args.left.now)) (λ done. gives v)) (view c.in_ok-value.value) c.in_ok-value.ensures.ok
    ∙ bind_gives (place c.args.left_span (seen c.args.left.now)) (λ done. gives (view c.in_ok-value.value)) _
    (ap (check BadTarget c.args.left_span) (sym c.is_place.ensures) ∙ c.in_ok-check.ensures.ok)
